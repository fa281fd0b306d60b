-- A slot that stands in the tree, under lookups: what they load keeps it so, and a child that they enter stands so too. Assumes nothing.
use Rattle.std.specs.Prelude.{◌≡◌, List, ◌∷◌, ◌++◌, ℕ, suc, ◌<◌, length}
use Rattle.std.proofs.Common.{ap, ◌∙◌, arith}
use Rattle.node.specs.Result.{ok}
use Rattle.node.specs.Entry.{Entry}
use Rattle.tree.specs.Lent.{Lent}
use Rattle.tree.specs.Load.{Bounds, At, load_child}
use Rattle.tree.specs.State.{State, node_at}
use Rattle.history.specs.Statement.{Start, uses, Begins, Lends}
use Rattle.theorem.specs.model.Bounds.{Terms, K, unappend}
use Rattle.theorem.specs.model.Lazy.{node_of, cont, conts, Ok, ok_live}
use Rattle.theorem.specs.steps.Way.{Reads, Owned, Still, still_refl, still_then}
use Rattle.theorem.specs.model.Good.{found, Old, Good}
use Rattle.theorem.specs.load.Loads.{live_used, Loads, loads_slot, rows_apart, rows_length, rows_holds}
use Rattle.theorem.specs.load.Good.{blocks_blind}
use Rattle.theorem.specs.load.Way.{good_owned, load_good, below}

module _ (g : Start) (τ : Terms) (th : List ℕ) (begins : Begins g) (l : Lent) (lends : Lends g l) (s₀ : State)
    (rds : Reads τ (found g τ) l (Old g) s₀) (es : List Entry) where
  -- slot n, of level j, in a tree that came from s₀ by loads
  pub record Stands (s : State) (j n lo hi : ℕ) : Type 0 where
    pub good : Good g τ th s es
    pub still : Still s₀ s
    pub ok : Ok τ (found g τ) (node_at s) j lo hi (node_at s n)
    pub owned : Owned τ (found g τ) l (Old g) s j n

  -- the root
  pub stands_root : (h : Good g τ th s₀ es) → Stands s₀ h.level s₀.root h.lo h.hi
  stands_root h = record { good = h; still = still_refl s₀; ok = h.tree; owned = good_owned g τ th l s₀ es h }

  -- after loads
  pub stands_after : (s u : State) (j n lo hi : ℕ) → Stands s j n lo hi → Good g τ th u es → Loads τ (found g τ) s u → Stands u j n lo hi
  stands_after s u j n lo hi h gu ld =
      let m = loads_slot τ (found g τ) s u ld n j lo hi h.ok in
      record {
        good = gu;
        still = still_then s₀ s u h.still ld.still;
        ok = m.ok;
        owned = λ c z. h.owned c (omega (arith, z, m.sums (λ m. uses c m.block) (blocks_blind c)));
      }

  -- a child entered
  pub record Entered (s : State) (j : ℕ) (e : Entry) (a : At) : Type 0 where
    pub up_to : ℕ
    pub stands : Stands a.state j a.slot (K τ e.key) up_to
    pub loads : Loads τ (found g τ) s a.state
    pub holds : cont (found g τ) (node_at a.state) j (node_at a.state a.slot)
        ≡ cont (found g τ) (node_at s) j (node_of (found g τ) (node_at s) e.value)

  pub enter : (s : State) (bs : Bounds) (j n lo hi : ℕ) (xs : List Entry) (e : Entry) (ys : List Entry) (i : ℕ) (a : At) → Stands s (suc j) n lo hi
      → (node_at s n).entries ≡ xs ++ e ∷ ys
      → length xs ≡ i → load_child l s bs n i ≡ ok a → Entered s j e a
  enter s bs j n lo hi xs e ys i a h row ln eq =
      let eq' : load_child l s bs n (length xs) ≡ ok a = ap (load_child l s bs n) ln ∙ eq in
      let br = load_good g τ th begins l lends s₀ rds s es bs j n lo hi xs e ys a h.good h.still row h.ok h.owned eq' in
      let bl = below g τ th begins l lends s₀ rds s bs j n lo hi xs e ys a row h.ok h.owned eq' br.loads in
      record {
        up_to = bl.up_to;
        stands = record { good = br.good; still = still_then s₀ s a.state h.still br.loads.still; ok = bl.ok; owned = bl.owned };
        loads = br.loads;
        holds = bl.holds;
      }

  -- the node's entries after loads, taken apart at the same place: both parts hold what they held
  pub record Rest (s u : State) (j n : ℕ) (xs ys : List Entry) : Type 0 where
    pub front : List Entry
    pub back : List Entry
    pub row : (node_at u n).entries ≡ front ++ back
    pub long : length front ≡ length xs
    pub left : length back ≡ length ys
    pub before : conts (found g τ) (node_at u) j front ≡ conts (found g τ) (node_at s) j xs
    pub holds : conts (found g τ) (node_at u) j back ≡ conts (found g τ) (node_at s) j ys

  pub rest : (s u : State) (j n lo hi : ℕ) (xs ys : List Entry) → Stands s (suc j) n lo hi → (node_at s n).entries ≡ xs ++ ys
      → Loads τ (found g τ) s u
      → Rest s u j n xs ys
  rest s u j n lo hi xs ys h row ld =
      let used : n < length s.nodes = live_used s n (ok_live τ (found g τ) (node_at s) (suc j) lo hi (node_at s n) h.ok) in
      let p = rows_apart τ (found g τ) (node_at s) (node_at u) xs ys (node_at u n).entries (rw row at (ld.rows n used)) in
      let (m, q, r) = unappend xs (rw row at h.ok.items) in
      record {
        front = p.front;
        back = p.back;
        row = p.row;
        long = p.long;
        left = rows_length τ (found g τ) (node_at s) (node_at u) ys p.back p.after;
        before = rows_holds τ (found g τ) (node_at s) (node_at u) j xs p.front q p.before;
        holds = rows_holds τ (found g τ) (node_at s) (node_at u) j ys p.back r p.after;
      }
