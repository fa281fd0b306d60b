-- Refusal 1 passed grants trust; an accepted edit of slots that hold together may leave slots that don't, but are trusted. Assumes nothing.
use Rattle.std.specs.Prelude.{◌≡◌, refl, List, [], ◌∷◌, Bool, true, false, ◌&&◌, ◌||◌, not, ℕ, suc, length, replicate, ltb}
use Rattle.node.specs.Order.{pair, pair_key}
use Rattle.node.specs.Result.{ok, ◌>>=◌}
use Rattle.node.specs.Entry.{Entry, leaf, mem, rising}
use Rattle.node.specs.Slot.{MemNode}
use Rattle.tree.specs.laws.base.Node.{and_split, and_left, and_right}
use Rattle.tree.specs.Lent.{Lent}
use Rattle.tree.specs.State.{State, node_at}
use Rattle.tree.specs.Hold.{node_stands, node_holds, every_live, named_once, hold_together, numbers_hold, lent_holds}
use Rattle.tree.specs.Upsert.{upsert}
use Rattle.tree.specs.Trust.{stand_together, trusted}

and_all : (a b : Bool) → a ≡ true → b ≡ true → a && b ≡ true
and_all a b p q = rw (p, q)

or_by : (d a b : Bool) → (a ≡ true → b ≡ true) → d || a ≡ true → d || b ≡ true
or_by true a b f h = refl
or_by false a b f h = f h

node_stands_lem : (s : State) (n : ℕ) (m : MemNode) → node_holds s n m ≡ true → node_stands s n m ≡ true
unfolding node_holds
node_stands_lem s n m h = and_left (node_stands s n m) (rising s.order m.entries) h

-- a test that every live slot passes grants a weaker one
live_imp : (t u : ℕ → MemNode → Bool) → ((n : ℕ) (m : MemNode) → t n m ≡ true → u n m ≡ true) → (n : ℕ) (ms : List MemNode) → every_live t n ms ≡ true
    → every_live u n ms ≡ true
unfolding every_live
live_imp t u f n [] h = refl
live_imp t u f n (m ∷ ms) h =
    let a = and_split (m.dead || t n m) (every_live t (suc n) ms) h in
    and_all (m.dead || u n m) (every_live u (suc n) ms) (or_by m.dead (t n m) (u n m) (f n m) a.0) (live_imp t u f (suc n) ms a.1)

together : (s : State) → hold_together s ≡ true → stand_together s ≡ true
unfolding hold_together stand_together
together s h =
    let r : Bool = ltb s.root (length s.nodes) && not (node_at s s.root).dead in
    let k : Bool = named_once s (length s.nodes) in
    let live : Bool = every_live (node_holds s) 0 s.nodes in
    let a = and_split (r && live) k h in
    let b = and_split r live a.0 in
    and_all (r && every_live (node_stands s) 0 s.nodes) k
    (and_all r (every_live (node_stands s) 0 s.nodes) b.0 (live_imp (node_holds s) (node_stands s) (node_stands_lem s) 0 s.nodes b.1))
    a.1

pub lent_trusted : (l : Lent) (s : State) → lent_holds l s ≡ true → trusted l s ≡ true
unfolding lent_holds trusted
lent_trusted l s h = and_all (numbers_hold l s) (stand_together s) (and_left (numbers_hold l s) (hold_together s) h)
    (together s (and_right (numbers_hold l s) (hold_together s) h))

-- ---- an index key that is not its child's first key: an upsert sets it, and the keys of the root rise no more

abbrev lent : Lent
lent = record { image = replicate 512 0; size = 512; map = []; slots = 8 }

abbrev value : List ℕ
value = replicate 16 0

abbrev node : ℕ → ℕ → List Entry → MemNode
node level block es = record { level = level; entries = es; block = block ∷ []; id = []; dirty = false; dead = false }

abbrev forged : State
forged =
    record {
      root = 0;
      nodes =
          node 1 0 (record { key = pair_key 10 0; value = mem 1 } ∷ record { key = pair_key 20 0; value = mem 2 } ∷ [])
          ∷ node 0 1 (record { key = pair_key 10 0; value = leaf value } ∷ [])
          ∷ node 0 2 (record { key = pair_key 5 0; value = leaf value } ∷ record { key = pair_key 21 0; value = leaf value } ∷ [])
          ∷ [];
      info = record {
        flags = 0;
        node_size = 512;
        key_size = 16;
        val_size = 16;
        longest_key = 16;
        longest_val = 16;
        key_count = 3;
        node_count = 3;
      };
      virtual = false;
      subtype = 0;
      order = pair;
      xid = 1;
    }

-- before: it holds together; after an accepted upsert: it does not, and is trusted
pub forged_once : (upsert lent forged (pair_key 25 0) (leaf value) >>= λ t. ok (lent_holds lent forged && not (lent_holds lent t) && trusted lent t))
    ≡ ok true
unfolding Rattle.node.specs.Bytes.window Rattle.node.specs.Bytes.splice Rattle.node.specs.Bytes.moved Rattle.node.specs.Bytes.le Rattle.node.specs.Bytes.bytes_of Rattle.node.specs.Bytes.field_at Rattle.node.specs.Order.known Rattle.node.specs.Order.keyed_length Rattle.node.specs.Order.keyed Rattle.node.specs.Order.pair_key Rattle.node.specs.Order.pair_less Rattle.node.specs.Order.byte_less Rattle.node.specs.Order.less Rattle.node.specs.Order.same_key Rattle.node.specs.Entry.value_length Rattle.node.specs.Entry.rise_after Rattle.node.specs.Entry.rising Rattle.node.specs.Entry.every Rattle.node.specs.Entry.value_bytes Rattle.node.specs.Find.place_of Rattle.node.specs.Find.is_there Rattle.node.specs.Find.not_above Rattle.node.specs.Find.way_index Rattle.node.specs.Find.last_not_above Rattle.node.specs.Find.last_of Rattle.node.specs.Find.key_at Rattle.node.specs.Find.val_at Rattle.node.specs.Fit.flag Rattle.node.specs.Fit.align8 Rattle.node.specs.Fit.greater Rattle.node.specs.Fit.padded Rattle.node.specs.Fit.data_space Rattle.node.specs.Fit.fixed Rattle.node.specs.Fit.slot_width Rattle.node.specs.Fit.fixed_value Rattle.node.specs.Fit.toc_slots Rattle.node.specs.Fit.toc_length Rattle.node.specs.Fit.keys_length Rattle.node.specs.Fit.values_length Rattle.node.specs.Fit.room_of Rattle.node.specs.Fit.packed_length Rattle.node.specs.Fit.fits_sums Rattle.node.specs.Fit.fits Rattle.node.specs.Cut.entry_size Rattle.node.specs.Cut.size Rattle.node.specs.Cut.left_part Rattle.node.specs.Cut.kept_within Rattle.node.specs.Cut.shorten Rattle.node.specs.Cut.lengthen Rattle.node.specs.Cut.cut_place Rattle.node.specs.Cut.cut Rattle.node.specs.Cut.cut_means Rattle.node.specs.Records.mark_of Rattle.node.specs.Records.record_bytes Rattle.node.specs.Records.record_of Rattle.node.specs.Records.records_of Rattle.node.specs.Records.mark_length Rattle.node.specs.Records.value_of Rattle.node.specs.Records.record_length Rattle.node.specs.Records.entry_of Rattle.node.specs.Records.records_length Rattle.node.specs.Records.entries_of Rattle.node.specs.Read.info_at Rattle.node.specs.Read.parsed Rattle.node.specs.Read.is_fixed Rattle.node.specs.Read.flags_hold Rattle.node.specs.Read.layout_holds Rattle.node.specs.Read.span_at Rattle.node.specs.Read.is_ghost Rattle.node.specs.Read.span_holds Rattle.node.specs.Read.span_length Rattle.node.specs.Read.spans_hold Rattle.node.specs.Read.spans_length Rattle.node.specs.Read.entries_hold Rattle.node.specs.Read.value_at Rattle.node.specs.Read.entry_at Rattle.node.specs.Read.entries_from Rattle.node.specs.Read.in_bounds Rattle.node.specs.Read.keys_rise Rattle.node.specs.Read.keys_within Rattle.node.specs.Read.keys_hold Rattle.node.specs.Read.on_disk Rattle.node.specs.Read.read_node Rattle.node.specs.Read.read_of Rattle.node.specs.Pack.child_number Rattle.node.specs.Pack.numbered_value Rattle.node.specs.Pack.numbered Rattle.node.specs.Pack.pad_to Rattle.node.specs.Pack.value_offset Rattle.node.specs.Pack.toc_entry Rattle.node.specs.Pack.toc Rattle.node.specs.Pack.key_area Rattle.node.specs.Pack.value_area Rattle.node.specs.Pack.node_flags Rattle.node.specs.Pack.head_bytes Rattle.node.specs.Pack.info_bytes Rattle.node.specs.Pack.pack_node Rattle.node.specs.Slot.head_at Rattle.node.specs.Slot.head_words Rattle.node.specs.Slot.marked Rattle.node.specs.Slot.node_of Rattle.node.specs.Slot.insert_at Rattle.node.specs.Slot.remove_at Rattle.node.specs.Slot.rekeyed Rattle.node.specs.Slot.with_key Rattle.node.specs.Slot.revalued Rattle.node.specs.Slot.with_value Rattle.node.specs.Slot.records_hold Rattle.node.specs.Slot.is_child Rattle.node.specs.Slot.suit Rattle.node.specs.Slot.suits Rattle.node.specs.Slot.child_means Rattle.node.specs.Slot.value_means Rattle.tree.specs.Lent.is_size Rattle.tree.specs.Lent.blocks Rattle.tree.specs.Lent.sizes_hold Rattle.tree.specs.Lent.block_at Rattle.tree.specs.Lent.in_image Rattle.tree.specs.State.with_nodes Rattle.tree.specs.State.with_root Rattle.tree.specs.State.with_info Rattle.tree.specs.State.with_counts Rattle.tree.specs.State.with_longest Rattle.tree.specs.State.no_node Rattle.tree.specs.State.node_at Rattle.tree.specs.State.put_node Rattle.tree.specs.State.add_node Rattle.tree.specs.State.with_entries Rattle.tree.specs.State.changed Rattle.tree.specs.State.marked_dirty Rattle.tree.specs.State.marked_dead Rattle.tree.specs.State.with_place Rattle.tree.specs.State.with_level Rattle.tree.specs.State.made Rattle.tree.specs.Hold.key_fits Rattle.tree.specs.Hold.value_fits Rattle.tree.specs.Hold.child_holds Rattle.tree.specs.Hold.stands_on_disk Rattle.tree.specs.Hold.node_holds Rattle.tree.specs.Hold.node_stands Rattle.tree.specs.Hold.every_live Rattle.tree.specs.Hold.info_holds Rattle.tree.specs.Hold.numbers_hold Rattle.tree.specs.Hold.naming Rattle.tree.specs.Hold.named Rattle.tree.specs.Hold.named_once Rattle.tree.specs.Hold.hold_together Rattle.tree.specs.Hold.lent_holds Rattle.tree.specs.Load.unbounded Rattle.tree.specs.Load.bound_key Rattle.tree.specs.Load.tighter_lower Rattle.tree.specs.Load.tighter_upper Rattle.tree.specs.Load.child_bounds Rattle.tree.specs.Load.load_block Rattle.tree.specs.Load.root_place Rattle.tree.specs.Load.child_place Rattle.tree.specs.Load.storage_class Rattle.tree.specs.Load.root_holds Rattle.tree.specs.Load.disk_number Rattle.tree.specs.Load.map_child Rattle.tree.specs.Load.map_last Rattle.tree.specs.Load.or_else Rattle.tree.specs.Load.map_floor Rattle.tree.specs.Load.mapping Rattle.tree.specs.Load.map_root_holds Rattle.tree.specs.Load.map_address Rattle.tree.specs.Load.address_of Rattle.tree.specs.Load.adopted Rattle.tree.specs.Load.load_child Rattle.tree.specs.Lookup.opened_at Rattle.tree.specs.Lookup.opened Rattle.tree.specs.Lookup.above Rattle.tree.specs.Lookup.way_from Rattle.tree.specs.Lookup.way Rattle.tree.specs.Lookup.leaf_of Rattle.tree.specs.Lookup.held Rattle.tree.specs.Lookup.got_length Rattle.tree.specs.Lookup.get Rattle.tree.specs.Lookup.last_from Rattle.tree.specs.Lookup.floor_from Rattle.tree.specs.Lookup.floor Rattle.tree.specs.Lookup.ends_above Rattle.tree.specs.Lookup.between Rattle.tree.specs.Lookup.range_enters Rattle.tree.specs.Lookup.range_kids Rattle.tree.specs.Lookup.range_from Rattle.tree.specs.Lookup.range Rattle.tree.specs.Edit.mark_way Rattle.tree.specs.Edit.mark_dirty Rattle.tree.specs.Edit.touch Rattle.tree.specs.Edit.set_index_key Rattle.tree.specs.Edit.index_keys Rattle.tree.specs.Edit.more_nodes Rattle.tree.specs.Edit.room_for Rattle.tree.specs.Edit.parted Rattle.tree.specs.Edit.link_right Rattle.tree.specs.Edit.root_entries Rattle.tree.specs.Edit.grow_root Rattle.tree.specs.Edit.new_root_holds Rattle.tree.specs.Edit.cut_at Rattle.tree.specs.Edit.cut_node Rattle.tree.specs.Edit.cuts Rattle.tree.specs.Upsert.put_entry Rattle.tree.specs.Upsert.grown_longest Rattle.tree.specs.Upsert.put_in_leaf Rattle.tree.specs.Upsert.upsert_on Rattle.tree.specs.Upsert.entry_fits Rattle.tree.specs.Upsert.upserted Rattle.tree.specs.Upsert.upsert Rattle.tree.specs.Upsert.upsert_in Rattle.tree.specs.Remove.drop_node Rattle.tree.specs.Remove.drop_emptied Rattle.tree.specs.Remove.leveled_root Rattle.tree.specs.Remove.handed_down Rattle.tree.specs.Remove.has_only_child Rattle.tree.specs.Remove.root_taken Rattle.tree.specs.Remove.hand_down Rattle.tree.specs.Remove.take_from_leaf Rattle.tree.specs.Remove.shrunk_on Rattle.tree.specs.Remove.remove_on Rattle.tree.specs.Remove.removed Rattle.tree.specs.Remove.remove Rattle.tree.specs.Omap.is_omap Rattle.tree.specs.Omap.versions_end Rattle.tree.specs.Omap.remove_all Rattle.tree.specs.Omap.dropped Rattle.tree.specs.Omap.omap_value Rattle.tree.specs.Omap.omap_drop Rattle.tree.specs.Omap.omap_put Rattle.tree.specs.Trust.trusted Rattle.tree.specs.Trust.stand_together
forged_once = refl
