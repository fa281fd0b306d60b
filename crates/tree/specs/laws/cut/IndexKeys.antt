-- Laws of the index keys on a way, set bottom up. Assumes nothing.
use Rattle.std.specs.Prelude.{◌≡◌, length}
use Rattle.std.proofs.Math.Path.{refl, ap, ap₂}
use Rattle.std.proofs.Common.{sym, ◌∙◌}
use mathlib.Core.List.{List, [], ◌∷◌, ◌++◌}
use Prim.Native.Nat.{ℕ, zero, suc, ◌+◌, ◌-◌, ◌*◌, ◌≤◌, ◌<◌}
use native.Mathlib.Omega.{arith}
use Rattle.node.specs.Cut as cutting
use Rattle.node.specs.Records.{records_length, entries_of}
use Rattle.node.specs.laws.slot.Records.{records_size}
use Rattle.node.specs.Slot.{head_at}
use Rattle.node.specs.declared.head.Head.{Head}
use Rattle.tree.specs.Workspace.{slot_bytes, state_of}
use Rattle.tree.specs.State.{State, node_at}
use Rattle.tree.specs.Lookup.{Step}
use Rattle.tree.specs.Edit.{set_index_key, index_keys}
use Rattle.tree.specs.internal.Bank.{node_in, live, Lies, Ready}
use Rattle.tree.specs.internal.Way.{nth_step, steps_of, steps_in, WayIn}
use Rattle.tree.specs.internal.Index.{Rewritten, KeyRoom, KeyFits, steps_from, IndexRoom, Indexed}
use Rattle.tree.specs.laws.slots.Bank.{live_entries}
use Rattle.tree.specs.laws.slots.OneSlot.{ready_part, part_long}
use Rattle.tree.specs.laws.slots.Undo.{follows_same, follows_on}
use Rattle.tree.specs.laws.slots.Tree.{node_in_lem}
use Rattle.tree.specs.laws.load.Fetch.{count_is}
use Rattle.tree.specs.declared.editor.Tree.{Tree}
use Rattle.tree.specs.declared.editor.Position as code

-- ---- steps from one on

module _ (way : List code.Position) where
  abbrev step : ℕ → Step
  step j = record { slot = (nth_step way j).slot; child = (nth_step way j).index }

  from_cons : (j : ℕ) → j < length way → steps_from way j (length way - j) ≡ step j ∷ steps_from way (suc j) (length way - suc j)
  unfolding steps_from
  from_cons j h = let z : length way - j ≡ suc (length way - suc j) = omega arith in rw z

  from_snoc : (m j : ℕ) → steps_from way j m ++ step (j + m) ∷ [] ≡ steps_from way j (suc m)
  unfolding steps_from
  from_snoc zero j = let z : j + 0 ≡ j = omega arith in ap (λ (x : ℕ). step x ∷ []) z
  from_snoc (suc m) j = let z : j + suc m ≡ suc j + m = omega arith in ap (λ (l : List Step). step j ∷ l)
      (ap (λ (x : ℕ). steps_from way (suc j) m ++ step x ∷ []) z ∙ from_snoc m (suc j))

  pub from_start : (k : ℕ) → steps_of way k ≡ steps_from way 0 k
  unfolding steps_of steps_from
  from_start zero = refl
  from_start (suc k) = let z : k ≡ 0 + k = omega arith in ap₂ (λ (l : List Step) (x : ℕ). l ++ step x ∷ []) (from_start k) z ∙ from_snoc k 0

  -- one step has no index key above it
  index_few : (j m : ℕ) (s : State) → m ≤ 1 → index_keys (steps_from way j m) s ≡ s
  unfolding steps_from index_keys
  index_few j zero s h = refl
  index_few j (suc zero) s h = refl
  index_few j (suc (suc m)) s h = absurd (omega arith)

index_cons : (x y : Step) (l ys : List Step) (s : State) → l ≡ y ∷ ys
    → index_keys (x ∷ l) s ≡ set_index_key (index_keys l s) x.slot x.child y.slot
unfolding index_keys
index_cons x y l ys s e = rw e

-- ---- room

module _ (size slots n c room : ℕ) (t : Tree) (h b : List ℕ) (r : Ready size slots t.used h b) (hn : n < t.used) where
  abbrev w : Head
  w = live (head_at h n)

  entries_are : (node_at (state_of size t h b) n).entries ≡ entries_of (live (head_at h n)).count (slot_bytes size b n)
  unfolding node_in
  entries_are = rw (node_in_lem size t h b n hn) (live_entries (head_at h n) (slot_bytes size b n))

  key_room : KeyFits size (state_of size t h b) n c room → KeyRoom size t h b n c room
  key_room f =
      let l : Lies size w (slot_bytes size b n) = r.lies n hn in
      let g : length (slot_bytes size b n) ≡ 4 * size = part_long size b n (ready_part size slots t.used h b n r hn) in
      let z : records_length w.count (slot_bytes size b n) + 4 * w.count ≡ cutting.size (entries_of w.count (slot_bytes size b n)) = records_size
      w.count (slot_bytes size b n) (omega (arith, l.room)) in
      let y : cutting.size (node_at (state_of size t h b) n).entries ≡ cutting.size (entries_of w.count (slot_bytes size b n)) = ap cutting.size
      entries_are in
      let x : w.count ≡ length (node_at (state_of size t h b) n).entries = count_is size t h b n hn w refl in
      record { slot = omega (arith, f.slot, l.used, z, y, x); short = f.short; copied = f.copied }

-- ---- the loop

module _ (size slots : ℕ) (t : Tree) (way : List code.Position) (h0 b0 : List ℕ) where
  pub indexed_none : Ready size slots t.used h0 b0 → Indexed size slots t way (length way - 1) h0 b0 h0 b0
  indexed_none r =
      record {
        rest = record {
          state = sym (index_few way (length way - 1) (length way - (length way - 1)) (state_of size t h0 b0) (omega arith));
          ready = r;
          follows = follows_same size slots t.used h0 b0;
        };
      }

  module _ (j : ℕ) (h b : List ℕ) (d : Indexed size slots t way j h0 b0 h b) where
    pub indexed_ready : Ready size slots t.used h b
    indexed_ready = d.rest.ready

    pub indexed_all : j ≤ 0 → Rewritten size slots t h0 b0 h b (index_keys (steps_in way) (state_of size t h0 b0))
    indexed_all u =
        let z : j ≡ 0 = omega arith in
        let y : length way - 0 ≡ length way = omega arith in
        record {
          state = d.rest.state ∙ ap (λ (x : ℕ). index_keys (steps_from way x (length way - x)) (state_of size t h0 b0)) z
              ∙ ap (λ (x : ℕ). index_keys (steps_from way 0 x) (state_of size t h0 b0)) y
              ∙ ap (λ (l : List Step). index_keys l (state_of size t h0 b0)) (sym (from_start way (length way)));
          ready = d.rest.ready;
          follows = d.rest.follows;
        }

    module _ (u : 0 < j) (v : j < length way) (x y : code.Position) (ex : x ≡ nth_step way (j - 1)) (ey : y ≡ nth_step way j) where
      pub index_turn : (room more : ℕ) → WayIn t.used way → IndexRoom size t h0 b0 way room → more ≡ room
          → KeyRoom size t h b x.slot y.slot more
      index_turn room more w i e =
          rw (e, ex, ey) (key_room size slots (nth_step way (j - 1)).slot (nth_step way j).slot room t h b d.rest.ready (w.slot (j - 1) (omega arith))
          (rw d.rest.state (i.turn j u v)))

      pub indexed_next : (h' b' : List ℕ) → Rewritten size slots t h b h' b' (set_index_key (state_of size t h b) x.slot x.index y.slot)
          → Indexed size slots t way (j - 1) h0 b0 h' b'
      indexed_next h' b' w =
          let s : State = state_of size t h0 b0 in
          let z : suc (j - 1) ≡ j = omega arith in
          let k : j - 1 < length way = omega arith in
          record {
            rest = record {
              state = w.state
                  ∙ rw (ex, ey)
                  (ap (λ (v : State). set_index_key v (nth_step way (j - 1)).slot (nth_step way (j - 1)).index (nth_step way j).slot) d.rest.state)
                  ∙ sym (index_cons (step way (j - 1)) (step way j) (steps_from way j (length way - j))
                  (steps_from way (suc j) (length way - suc j)) s (from_cons way j v))
                  ∙ sym (ap (λ (l : List Step). index_keys l s)
                  (from_cons way (j - 1) k ∙ ap (λ (x : ℕ). step way (j - 1) ∷ steps_from way x (length way - x)) z));
              ready = w.ready;
              follows = follows_on size slots t.used t.used h0 b0 h b h' b' d.rest.follows w.follows (omega arith);
            };
          }

pub ruleset index_keys_laws = (indexed_none, indexed_all)
