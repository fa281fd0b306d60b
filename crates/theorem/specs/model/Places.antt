-- A node in another place: its block, its id and its mark are others, what stands below it is as it was. Assumes nothing.
use Rattle.std.specs.Prelude.{◌≡◌, refl}
use Rattle.std.proofs.Math.Path.{ap}
use Rattle.std.proofs.Common.{◌∙◌, arith}
use Prim.Native.Nat.{ℕ, zero, suc, ◌+◌, ◌≤◌}
use Rattle.node.specs.Slot.{MemNode}
use Rattle.theorem.specs.model.Bounds.{Terms}
use Rattle.theorem.specs.model.Lazy.{cont, total, slots, conts, totals, slots_in, Ok, frame_all}

module _ (τ : Terms) (rd at at' : ℕ → MemNode) (m m' : MemNode) (lv : m'.level ≡ m.level) (es : m'.entries ≡ m.entries)
    (dd : m'.dead ≡ m.dead) where
  pub record Replaced (l : ℕ) : Type 0 where
    pub holds : cont rd at' l m' ≡ cont rd at l m
    pub uses : (c : ℕ) → slots rd at' l c m' ≡ slots rd at l c m
    pub sums : (f : MemNode → ℕ) → total rd at' f l m' + f m ≡ total rd at f l m + f m'
    pub ok : (lo hi : ℕ) → Ok τ rd at l lo hi m → Ok τ rd at' l lo hi m'

  pub replaced : (l : ℕ) → ((d : ℕ) → 1 ≤ slots rd at l d m → at' d ≡ at d) → Replaced l
  unfolding cont slots total
  replaced zero h =
      record {
        holds = es;
        uses = λ c. refl;
        sums = λ f. omega arith;
        ok = λ lo hi k. record { level = lv ∙ k.level; live = dd ∙ k.live; items = rw es k.items };
      }
  replaced (suc l) h =
      let below = frame_all τ rd at at' l m.entries h in
      record {
        holds = ap (conts rd at' l) es ∙ below.holds;
        uses = λ c. ap (slots_in rd at' l c) es ∙ below.uses c;
        sums = λ f. let q : totals rd at' f l m'.entries ≡ totals rd at f l m.entries = ap (totals rd at' f l) es ∙ below.sums f in
            omega arith;
        ok = λ lo hi k. record { level = lv ∙ k.level; live = dd ∙ k.live; items = rw es (below.ok lo hi k.items) };
      }
