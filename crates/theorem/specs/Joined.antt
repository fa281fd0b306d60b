-- Demand 3 of the code: calls as their contracts give them are turns of the theorem, so its conclusion holds of what the code answers and leaves.
use Rattle.std.specs.Prelude.{◌≡◌, List, [], ◌∷◌, ℕ}
use Rattle.std.proofs.Math.Path.{refl, sym, ap}
use Rattle.std.proofs.Common.{◌∙◌}
use Rattle.std.proofs.Math.Bool.{true}
use Rattle.node.specs.laws.base.Results.{checked_ok}
use Rattle.node.specs.Refusals as refusal
use Rattle.tree.specs.Format.{Result, ok, refused, ◌>>=◌}
use Rattle.tree.specs.Lent as lent
use Rattle.tree.specs.Lent.{lent_of}
use Rattle.tree.specs.State.{State}
use Rattle.tree.specs.Workspace.{state_of, workspace_holds, scratch_holds, called, edits}
use Rattle.tree.specs.Lookup as lookup
use Rattle.tree.specs.Lookup.{opened}
use Rattle.tree.specs.Upsert.{upsert}
use Rattle.tree.specs.Remove as removing
use Rattle.tree.specs.Omap.{omap_put, omap_drop}
use Rattle.tree.specs.Answers.{opened_of, opened_in, got_means, got_in, got_leaves, floor_means, floored_in, floored_leaves}
use Rattle.tree.specs.Answers.{range_means, ranged_in, ranged_leaves, edited_of, edited_leaves, removed_of, removed_leaves}
use Rattle.tree.specs.declared.lent.Lent.{Lent}
use Rattle.tree.specs.declared.editor.Tree.{Tree}
use Rattle.std.specs.Prelude as std
use Rattle.std.specs.Prelude.{Bool, Option, Ok, Err}
use Rattle.tree.specs.Refusals.{Refusal, number_of}
use Rattle.tree.specs.declared.get.Copied.{Copied}
use Rattle.tree.specs.declared.range.Ranged.{Ranged}
use Rattle.flush.specs.Space.{Space}
use Rattle.flush.specs.Flush.{Flushed, Lists, flush}
use Rattle.flush.specs.Answers.{flushed_in}
use Rattle.history.specs.Calls.{
  Call,
  get_call,
  floor_call,
  range_call,
  upsert_call,
  remove_call,
  put_call,
  drop_call,
  flush_call,
  Stepped,
  values,
  entries,
  present,
  done,
}
use Rattle.history.specs.Calls.{step, after_step}
use Rattle.history.specs.Statement.{Start, Begins, Turn, states, Holds}
use Rattle.history.specs.Code.{Memory, state_in, holds_in, tree_got, tree_floored, tree_ranged, tree_edited, tree_removed, Ran, Runs, Opens, Demand3OfCode}
use Rattle.history.specs.Code.{RanGet, RanFloor, RanRange, RanEdit, RanUpsert, RanRemove, RanFlush}
use Rattle.theorem.specs.Whole.{demand3}

-- what one call of the code is and leaves: a step of the theorem, the state after it, a workspace that holds
pub record Kept (image : List ℕ) (l : Lent) (m : Memory) (c : Call) (x : Result Stepped) (m' : Memory) : Type 0 where
  pub steps : x ≡ step (lent_of image l) c (state_in l.size m)
  pub state : state_in l.size m' ≡ after_step (state_in l.size m) x
  pub holds : holds_in l m' ≡ true

-- ---- one call

module _ (image : List ℕ) (l : Lent) (m : Memory) (held : holds_in l m ≡ true) where
  abbrev s : State
  s = state_in l.size m

  called_is : {A : Type 0} (f : State → Result A) → called l.size l.slots m.tree m.heads m.bytes f ≡ f s
  unfolding called state_in holds_in
  called_is f = let h : workspace_holds l.size l.slots m.tree.used m.heads m.bytes ≡ true = held in rw h

  edits_are : {A : Type 0} (scratch : List ℕ) (f : State → Result A) → scratch_holds l.size l.slots scratch ≡ true
      → edits l.size l.slots m.tree m.heads m.bytes scratch f ≡ f s
  unfolding edits
  edits_are scratch f w = rw w (called_is f)

  flush_is : (p : Space) (lists : Lists) (xid next : ℕ)
      → flushed_in (lent_of image l) p lists m.tree m.heads m.bytes xid next ≡ flush (lent_of image l) p lists s xid next
  unfolding flushed_in lent_of
  flush_is p lists xid next = called_is (λ z. flush (lent_of image l) p lists z xid next)

  module _ (x : Result Stepped) (m' : Memory) where
    -- refused: the tree before, in the words after
    no_state : (n : ℕ) → m'.tree ≡ m.tree → x ≡ refused n
        → state_of l.size m.tree m'.heads m'.bytes ≡ state_of l.size m.tree m.heads m.bytes
        → state_in l.size m' ≡ after_step s x
    unfolding state_in after_step
    no_state n t e k = ap (λ (u : Tree). state_of l.size u m'.heads m'.bytes) t ∙ k ∙ sym (ap (after_step s) e)

    no_holds : m'.tree ≡ m.tree
        → workspace_holds l.size l.slots m.tree.used m'.heads m'.bytes
        ≡ workspace_holds l.size l.slots m.tree.used m.heads m.bytes → holds_in l m' ≡ true
    unfolding holds_in
    no_holds t k = ap (λ (u : Tree). workspace_holds l.size l.slots u.used m'.heads m'.bytes) t ∙ k ∙ held

    -- accepted: the tree that the answer names
    yes_state : (u : Tree) (r : Stepped) → m'.tree ≡ u → x ≡ ok r → r.state ≡ state_of l.size u m'.heads m'.bytes
        → state_in l.size m' ≡ after_step s x
    unfolding state_in after_step
    yes_state u r t e k = ap (λ (v : Tree). state_of l.size v m'.heads m'.bytes) t ∙ sym k ∙ sym (ap (after_step s) e)

    yes_holds : (u : Tree) → m'.tree ≡ u → workspace_holds l.size l.slots u.used m'.heads m'.bytes ≡ true → holds_in l m' ≡ true
    unfolding holds_in
    yes_holds u t k = ap (λ (v : Tree). workspace_holds l.size l.slots v.used m'.heads m'.bytes) t ∙ k

    -- ---- get

    gets : (out : List ℕ) (r : std.Result (Tree × Option Copied) Refusal) → got_leaves l.size l.slots m.tree m.heads m.bytes m'.heads m'.bytes r
        → x ≡ (got_means l.size m'.heads m'.bytes out r >>= λ g. ok (record { state = g.state; answer = values g.answer }))
        → m'.tree ≡ tree_got m.tree r → (state_in l.size m' ≡ after_step s x) × (holds_in l m' ≡ true)
    unfolding got_means tree_got
    gets out (Err n) k e t = (no_state (number_of n) t e k.0, no_holds t k.1)
    gets out (Ok (u, c)) k e t = (yes_state u _ t e refl, yes_holds u t k)

    ran_get : (room : ℕ) (k : List ℕ) → RanGet image l m room k x m' → Kept image l m (get_call room k) x m'
    unfolding got_in lent_of step
    ran_get room k r =
        let (a, b) = gets r.out r.said r.left r.read r.tree in
        record {
          steps = r.read ∙ ap (λ y. y >>= λ g. ok (record { state = g.state; answer = values g.answer }))
              (r.answer ∙ called_is (λ z. lookup.get (lent_of image l) z room k));
          state = a;
          holds = b;
        }

    -- ---- floor, range

    floors : (out : List ℕ) (r : std.Result (Tree × Option ℕ) Refusal) → floored_leaves l.size l.slots m.tree m.heads m.bytes m'.heads m'.bytes r
        → x ≡ (floor_means l.size m'.heads m'.bytes out r >>= λ g. ok (record { state = g.state; answer = entries g.answer }))
        → m'.tree ≡ tree_floored m.tree r → (state_in l.size m' ≡ after_step s x) × (holds_in l m' ≡ true)
    unfolding floor_means tree_floored
    floors out (Err n) k e t = (no_state (number_of n) t e k.0, no_holds t k.1)
    floors out (Ok (u, c)) k e t = (yes_state u _ t e refl, yes_holds u t k)

    ran_floor : (room : ℕ) (k : List ℕ) → RanFloor image l m room k x m' → Kept image l m (floor_call room k) x m'
    unfolding floored_in lent_of step
    ran_floor room k r =
        let (a, b) = floors r.out r.said r.left r.read r.tree in
        record {
          steps = r.read ∙ ap (λ y. y >>= λ g. ok (record { state = g.state; answer = entries g.answer }))
              (r.answer ∙ called_is (λ z. lookup.floor (lent_of image l) z room k));
          state = a;
          holds = b;
        }

    ranges : (out : List ℕ) (r : std.Result Ranged Refusal) → ranged_leaves l.size l.slots m.tree m.heads m.bytes m'.heads m'.bytes r
        → x ≡ (range_means l.size m'.heads m'.bytes out r >>= λ g. ok (record { state = g.state; answer = entries g.answer }))
        → m'.tree ≡ tree_ranged m.tree r → (state_in l.size m' ≡ after_step s x) × (holds_in l m' ≡ true)
    unfolding range_means tree_ranged
    ranges out (Err n) k e t = (no_state (number_of n) t e k.0, no_holds t k.1)
    ranges out (Ok r) k e t = (yes_state r.tree _ t e refl, yes_holds r.tree t k)

    ran_range : (room : ℕ) (lo hi : List ℕ) → RanRange image l m room lo hi x m' → Kept image l m (range_call room lo hi) x m'
    unfolding ranged_in lent_of step
    ran_range room lo hi r =
        let (a, b) = ranges r.out r.said r.left r.read r.tree in
        record {
          steps = r.read ∙ ap (λ y. y >>= λ g. ok (record { state = g.state; answer = entries g.answer }))
              (r.answer ∙ called_is (λ z. lookup.range (lent_of image l) z room lo hi));
          state = a;
          holds = b;
        }

    -- ---- edits

    edit_left : (r : std.Result Tree Refusal) → edited_leaves l.size l.slots m.tree m.heads m.bytes m'.heads m'.bytes r
        → x ≡ (edited_of l.size m'.heads m'.bytes r >>= λ t. ok (record { state = t; answer = done }))
        → m'.tree ≡ tree_edited m.tree r → (state_in l.size m' ≡ after_step s x) × (holds_in l m' ≡ true)
    unfolding edited_of tree_edited
    edit_left (Err n) k e t = (no_state (number_of n) t e k.0, no_holds t k.1)
    edit_left (Ok u) k e t = (yes_state u _ t e refl, yes_holds u t k)

    ran_edit : (f : State → Result State) (r : RanEdit l m f x m')
        → x ≡ (f s >>= λ t. ok (record { state = t; answer = done }))
    ran_edit f r = r.read ∙ ap (λ y. y >>= λ t. ok (record { state = t; answer = done })) (r.answer ∙ edits_are r.scratch f r.wide)

    ran_upsert : (k : List ℕ) (v : _) → RanUpsert image l m k v x m' → Kept image l m (upsert_call k v) x m'
    unfolding step
    ran_upsert k v r =
        let e = r.edit in
        let (a, b) = edit_left e.said e.left e.read e.tree in
        record { steps = ran_edit (λ z. upsert (lent_of image l) z k v) e; state = a; holds = b }

    ran_put : (id xid address size : ℕ) → RanEdit l m (λ z. omap_put (lent_of image l) z id xid address size) x m'
        → Kept image l m (put_call id xid address size) x m'
    unfolding step
    ran_put id xid address size e =
        let (a, b) = edit_left e.said e.left e.read e.tree in
        record { steps = ran_edit (λ z. omap_put (lent_of image l) z id xid address size) e; state = a; holds = b }

    ran_drop : (id : ℕ) → RanEdit l m (λ z. omap_drop (lent_of image l) z id) x m' → Kept image l m (drop_call id) x m'
    unfolding step
    ran_drop id e =
        let (a, b) = edit_left e.said e.left e.read e.tree in
        record { steps = ran_edit (λ z. omap_drop (lent_of image l) z id) e; state = a; holds = b }

    remove_left : (r : std.Result (Tree × Bool) Refusal) → removed_leaves l.size l.slots m.tree m.heads m.bytes m'.heads m'.bytes r
        → x ≡ (removed_of l.size m'.heads m'.bytes r >>= λ d. ok (record { state = d.state; answer = present d.present }))
        → m'.tree ≡ tree_removed m.tree r → (state_in l.size m' ≡ after_step s x) × (holds_in l m' ≡ true)
    unfolding removed_of tree_removed
    remove_left (Err n) k e t = (no_state (number_of n) t e k.0, no_holds t k.1)
    remove_left (Ok (u, there)) k e t = (yes_state u _ t e refl, yes_holds u t k)

    ran_remove : (k : List ℕ) → RanRemove image l m k x m' → Kept image l m (remove_call k) x m'
    unfolding step
    ran_remove k r =
        let (a, b) = remove_left r.said r.left r.read r.tree in
        record {
          steps = r.read ∙ ap (λ y. y >>= λ d. ok (record { state = d.state; answer = present d.present }))
              (r.answer ∙ edits_are r.scratch (λ z. removing.remove (lent_of image l) z k) r.wide);
          state = a;
          holds = b;
        }

    ran_flush : (p : Space) (lists : Lists) (xid next : ℕ) → RanFlush image l m p lists xid next x m'
        → Kept image l m (flush_call p lists xid next) x m'
    unfolding step after_step
    ran_flush p lists xid next r =
        record {
          steps = r.read ∙ ap (λ y. y >>= λ (f : Flushed). ok (record { state = s; answer = done }))
              (r.answer ∙ flush_is p lists xid next);
          state = ap (state_in l.size) r.same ∙ sym (ap (after_step s) r.read);
          holds = ap (holds_in l) r.same ∙ held;
        }

    -- any call is a step of the theorem
    pub ran_step : (c : Call) → Ran image l m c x m' → Kept image l m c x m'
    ran_step (get_call room k) r = ran_get room k r
    ran_step (floor_call room k) r = ran_floor room k r
    ran_step (range_call room lo hi) r = ran_range room lo hi r
    ran_step (upsert_call k v) r = ran_upsert k v r
    ran_step (remove_call k) r = ran_remove k r
    ran_step (put_call id xid address size) r = ran_put id xid address size r
    ran_step (drop_call id) r = ran_drop id r
    ran_step (flush_call p lists xid next) r = ran_flush p lists xid next r

-- ---- lists of calls

pub runs_states : (l : Lent) (m m'' : Memory) (ts : List Turn) → holds_in l m ≡ true → Runs l m ts m''
    → (state_in l.size m'' ≡ states ts (state_in l.size m)) × (holds_in l m'' ≡ true)
unfolding states
runs_states l m m'' [] h r = (sym (ap (state_in l.size) r), ap (holds_in l) (sym r) ∙ h)
runs_states l m m'' (t ∷ ts) h n =
    let k = ran_step n.image l m h n.said n.after t.call n.ran in
    let (a, b) = runs_states l n.after m'' ts k.holds n.goes_on in
    let e : state_in l.size n.after ≡ after_step (state_in l.size m) (step t.lent t.call (state_in l.size m)) = k.state ∙ ap
    (after_step (state_in l.size m)) (k.steps ∙ ap (λ (z : lent.Lent). step z t.call (state_in l.size m)) (sym n.lends)) in
    (a ∙ ap (states ts) e, b)

-- ---- the theorem

module _ (g : Start) (l : Lent) (m : Memory) (o : Opens g l m) where
  starts_held : holds_in l m ≡ true
  unfolding holds_in
  starts_held = o.left

  starts_open : opened g.disk.lent g.root g.disk.order g.disk.xid ≡ ok g.state
  unfolding opened_of opened_in state_in
  starts_open =
      let (t, e) = checked_ok refusal.lent (workspace_holds (lent_of o.image l).size (lent_of o.image l).slots 0 o.words o.bytes)
      (opened (lent_of o.image l) g.root g.disk.order g.disk.xid) (state_in l.size m) (sym o.answer) in
      ap (λ (z : lent.Lent). opened z g.root g.disk.order g.disk.xid) o.lends ∙ e ∙ ap ok (sym o.state)

  begins : Begins g
  begins = record { unmoved = o.unmoved; bytes = o.are_bytes; formed = o.formed; opens = starts_open }

-- demand 3 holds of the code's entry points, as their contracts give them
pub demand3_of_code : Demand3OfCode
demand3_of_code g l m m'' ts o r a =
    let h : Holds g ts = demand3 g ts (begins g l m o) a in
    let (e, k) = runs_states l m m'' ts (starts_held g l m o) r in
    let s : state_in l.size m'' ≡ states ts g.state = e ∙ ap (states ts) (sym o.state) in
    record {
      holds = h;
      state = s;
      accepts = k;
      flushes = λ image p lists xid next f q z. h.flushes (lent_of image l) p lists xid next f z
          (sym (q ∙ flush_is image l m'' k p lists xid next ∙ ap (λ (y : State). flush (lent_of image l) p lists y xid next) s));
    }
