-- Demand 3, proved: the laws of one call joined, and the theorem. Assumes nothing.
use Rattle.std.specs.Prelude.{ℕ, List}
use Rattle.node.specs.Entry.{Entry}
use Rattle.tree.specs.Lent.{Lent}
use Rattle.tree.specs.State.{State}
use Rattle.history.specs.Passes.{passed}
use Rattle.history.specs.Statement.{Start, Begins, Lends, Demand3}
use Rattle.theorem.specs.model.Bounds.{Terms}
use Rattle.theorem.specs.model.Good.{found, Old, Suits, Good}
use Rattle.theorem.specs.steps.Way.{Reads}
use Rattle.theorem.specs.disk.Agree.{reads, address_follows, lends_follows}
use Rattle.theorem.specs.start.Start.{blocks_once, ids_once, good_open}
use Rattle.theorem.specs.load.Way.{good_way}
use Rattle.theorem.specs.lookup.Get.{good_get}
use Rattle.theorem.specs.lookup.Floor.{good_floor}
use Rattle.theorem.specs.lookup.Range.{good_range}
use Rattle.theorem.specs.upsert.Call.{good_upsert_in}
use Rattle.theorem.specs.remove.Edits.{good_remove, good_drop, good_put}
use Rattle.theorem.specs.flush.Flush.{good_flush}
use Rattle.theorem.specs.Histories.{Laws}
use Rattle.theorem.specs.Demand.{demand3_from}

module _ (g : Start) (τ : Terms) (begins : Begins g) (suits : Suits g τ) where
  -- what a call is lent reads as the disk that was opened
  pub lent_reads : (l : Lent) → Lends g l → (th : List ℕ) (s : State) (es : List Entry) → Good g τ th s es → Reads τ (found g τ) l (Old g) s
  lent_reads l lends th s es h = reads g τ l begins suits lends s h.xid h.order h.virtual h.info.key h.info.val

  -- every call keeps the invariant, and answers as the plain list
  pub laws : Laws g τ
  unfolding passed
  laws =
      record {
        opens = good_open g τ begins suits;
        gets = λ th l s es k h room key b m. good_get g τ th begins l k s (lent_reads l k th s es h) es h suits room key b m;
        floors = λ th l s es k h room key b m. good_floor g τ th begins l k s (lent_reads l k th s es h) es h suits room key b m;
        ranges = λ th l s es k h room lo hi b m b' m'. good_range g τ th begins l k s (lent_reads l k th s es h) es h suits room lo hi b b' m m';
        upserts = λ th l s es k h key v b m b'.
            good_upsert_in g τ l suits begins k th s es key v h b b' m (good_way g τ th begins l k s (lent_reads l k th s es h) es h suits key);
        removes = λ th l s es k h key i. good_remove g τ suits begins l k (lent_reads l k) th s es h key i;
        puts = λ th l s es k h id xid address size i x. good_put g τ suits begins l k (lent_reads l k) th s es h id xid address size i;
        drops = λ th l s es k h id i. good_drop g τ suits begins l k (lent_reads l k) th s es h id i;
        flushes = λ th l s es h p lists xid next f k e.
            good_flush g τ (λ m n r. address_follows g m begins (lends_follows g m n) g.disk.xid r) (blocks_once g τ begins suits)
            (λ v i. ids_once g τ begins suits i)
            th s es l p lists xid next f begins suits h k e;
      }

-- demand 3: any list of calls on a well-formed tree
pub demand3 : Demand3
demand3 = demand3_from (λ g τ begins suits. laws g τ begins suits)
