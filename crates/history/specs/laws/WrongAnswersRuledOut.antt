-- The one result of the wrong answers, by computation from the definitions, all of which are unfolded: each definition gives the right answer, and
-- neither wrong one.
use Rattle.std.specs.Prelude.{◌≡◌, refl, true}
use Rattle.history.specs.WrongAnswers.{all_ruled_out, table}

pub ruled_out : all_ruled_out table ≡ true
unfolding Rattle.history.specs.WrongAnswers.eight Rattle.history.specs.WrongAnswers.two Rattle.history.specs.WrongAnswers.slot
    Rattle.history.specs.WrongAnswers.words Rattle.history.specs.WrongAnswers.loose Rattle.history.specs.WrongAnswers.tight
    Rattle.history.specs.WrongAnswers.block Rattle.history.specs.WrongAnswers.place Rattle.history.specs.WrongAnswers.node
    Rattle.history.specs.WrongAnswers.read_as Rattle.history.specs.WrongAnswers.span_numbers Rattle.history.specs.WrongAnswers.lengths_numbers
    Rattle.history.specs.WrongAnswers.image Rattle.history.specs.WrongAnswers.lent Rattle.history.specs.WrongAnswers.mapped
    Rattle.history.specs.WrongAnswers.tree Rattle.history.specs.WrongAnswers.heads Rattle.history.specs.WrongAnswers.bytes
    Rattle.history.specs.WrongAnswers.unmarked Rattle.history.specs.WrongAnswers.empty Rattle.history.specs.WrongAnswers.opened_as
    Rattle.history.specs.WrongAnswers.address_as Rattle.history.specs.WrongAnswers.held_as Rattle.history.specs.WrongAnswers.value_as
    Rattle.history.specs.WrongAnswers.got_as Rattle.history.specs.WrongAnswers.got Rattle.history.specs.WrongAnswers.counted
    Rattle.history.specs.WrongAnswers.found_as Rattle.history.specs.WrongAnswers.floored Rattle.history.specs.WrongAnswers.ranged
    Rattle.history.specs.WrongAnswers.entry Rattle.history.specs.WrongAnswers.edited Rattle.history.specs.WrongAnswers.upserts
    Rattle.history.specs.WrongAnswers.removed Rattle.history.specs.WrongAnswers.map_edited Rattle.history.specs.WrongAnswers.space
    Rattle.history.specs.WrongAnswers.chosen Rattle.history.specs.WrongAnswers.dirtied Rattle.history.specs.WrongAnswers.roomy
    Rattle.history.specs.WrongAnswers.full Rattle.history.specs.WrongAnswers.lists Rattle.history.specs.WrongAnswers.flushed
    Rattle.history.specs.WrongAnswers.seal_rows Rattle.history.specs.WrongAnswers.order_rows Rattle.history.specs.WrongAnswers.record_rows
    Rattle.history.specs.WrongAnswers.fit_rows Rattle.history.specs.WrongAnswers.block_rows Rattle.history.specs.WrongAnswers.tree_rows
    Rattle.history.specs.WrongAnswers.call_rows Rattle.history.specs.WrongAnswers.space_rows Rattle.history.specs.WrongAnswers.flush_rows
    Rattle.history.specs.WrongAnswers.table Rattle.seal.specs.Bytes.window Rattle.seal.specs.Bytes.splice Rattle.seal.specs.Bytes.moved
    Rattle.seal.specs.Bytes.le Rattle.seal.specs.Bytes.bytes_of Rattle.seal.specs.Bytes.field_at Rattle.seal.specs.Checksum.words
    Rattle.seal.specs.Checksum.s1 Rattle.seal.specs.Checksum.s2 Rattle.seal.specs.Checksum.stored_for Rattle.seal.specs.Checksum.fletcher
    Rattle.seal.specs.Checksum.verified Rattle.seal.specs.Checksum.sealed Rattle.seal.specs.Obj.header_bytes Rattle.node.specs.Order.known
    Rattle.node.specs.Order.keyed_length Rattle.node.specs.Order.keyed Rattle.node.specs.Order.pair_key Rattle.node.specs.Order.pair_less
    Rattle.node.specs.Order.byte_less Rattle.node.specs.Order.less Rattle.node.specs.Order.same_key Rattle.node.specs.Entry.value_length
    Rattle.node.specs.Entry.rise_after Rattle.node.specs.Entry.rising Rattle.node.specs.Entry.every Rattle.node.specs.Entry.value_bytes
    Rattle.node.specs.Records.mark_of Rattle.node.specs.Records.record_bytes Rattle.node.specs.Records.record_of Rattle.node.specs.Records.records_of
    Rattle.node.specs.Records.mark_length Rattle.node.specs.Records.value_of Rattle.node.specs.Records.record_length
    Rattle.node.specs.Records.entry_of Rattle.node.specs.Records.records_length Rattle.node.specs.Records.entries_of Rattle.node.specs.Find.place_of
    Rattle.node.specs.Find.is_there Rattle.node.specs.Find.not_above Rattle.node.specs.Find.way_index Rattle.node.specs.Find.last_not_above
    Rattle.node.specs.Find.last_of Rattle.node.specs.Find.key_at Rattle.node.specs.Find.val_at Rattle.node.specs.Fit.flag Rattle.node.specs.Fit.align8
    Rattle.node.specs.Fit.greater Rattle.node.specs.Fit.padded Rattle.node.specs.Fit.data_space Rattle.node.specs.Fit.fixed
    Rattle.node.specs.Fit.slot_width Rattle.node.specs.Fit.fixed_value Rattle.node.specs.Fit.toc_slots Rattle.node.specs.Fit.toc_length
    Rattle.node.specs.Fit.keys_length Rattle.node.specs.Fit.values_length Rattle.node.specs.Fit.room_of Rattle.node.specs.Fit.packed_length
    Rattle.node.specs.Fit.fits_sums Rattle.node.specs.Fit.fits Rattle.node.specs.Cut.entry_size Rattle.node.specs.Cut.size
    Rattle.node.specs.Cut.left_part Rattle.node.specs.Cut.kept_within Rattle.node.specs.Cut.shorten Rattle.node.specs.Cut.lengthen
    Rattle.node.specs.Cut.cut_place Rattle.node.specs.Cut.cut Rattle.node.specs.Cut.cut_means Rattle.node.specs.Read.info_at
    Rattle.node.specs.Read.parsed Rattle.node.specs.Read.is_fixed Rattle.node.specs.Read.flags_hold Rattle.node.specs.Read.layout_holds
    Rattle.node.specs.Read.span_at Rattle.node.specs.Read.is_ghost Rattle.node.specs.Read.span_holds Rattle.node.specs.Read.span_length
    Rattle.node.specs.Read.spans_hold Rattle.node.specs.Read.spans_length Rattle.node.specs.Read.entries_hold Rattle.node.specs.Read.value_at
    Rattle.node.specs.Read.entry_at Rattle.node.specs.Read.entries_from Rattle.node.specs.Read.in_bounds Rattle.node.specs.Read.keys_rise
    Rattle.node.specs.Read.keys_within Rattle.node.specs.Read.keys_hold Rattle.node.specs.Read.on_disk Rattle.node.specs.Read.read_node
    Rattle.node.specs.Read.read_of Rattle.node.specs.Slot.head_at Rattle.node.specs.Slot.head_words Rattle.node.specs.Slot.marked
    Rattle.node.specs.Slot.node_of Rattle.node.specs.Slot.only Rattle.node.specs.Slot.number_of Rattle.node.specs.Slot.insert_at
    Rattle.node.specs.Slot.remove_at Rattle.node.specs.Slot.rekeyed Rattle.node.specs.Slot.with_key Rattle.node.specs.Slot.revalued
    Rattle.node.specs.Slot.with_value Rattle.node.specs.Slot.records_hold Rattle.node.specs.Slot.is_child Rattle.node.specs.Slot.suit
    Rattle.node.specs.Slot.suits Rattle.node.specs.Slot.key_length_holds Rattle.node.specs.Slot.value_length_holds Rattle.node.specs.Slot.value_holds
    Rattle.node.specs.Slot.entry_holds Rattle.node.specs.Slot.child_means Rattle.node.specs.Slot.value_means
    Rattle.node.specs.internal.SlotSteps.parts_at Rattle.node.specs.internal.SlotSteps.lengths_of Rattle.node.specs.internal.SlotSteps.longer_of
    Rattle.node.specs.internal.SlotSteps.pair_id Rattle.node.specs.internal.SlotSteps.found_in Rattle.node.specs.internal.SlotSteps.last_in
    Rattle.node.specs.internal.SlotSteps.read_head Rattle.node.specs.internal.SlotSteps.mark_holds Rattle.node.specs.internal.SlotSteps.records_stand
    Rattle.node.specs.internal.SlotSteps.checked_of Rattle.node.specs.internal.Sought.compared Rattle.node.specs.Pack.child_number
    Rattle.node.specs.Pack.numbered_value Rattle.node.specs.Pack.numbered Rattle.node.specs.Pack.pad_to Rattle.node.specs.Pack.value_offset
    Rattle.node.specs.Pack.toc_entry Rattle.node.specs.Pack.toc Rattle.node.specs.Pack.key_area Rattle.node.specs.Pack.value_area
    Rattle.node.specs.Pack.node_flags Rattle.node.specs.Pack.head_bytes Rattle.node.specs.Pack.info_bytes Rattle.node.specs.Pack.pack_node
    Rattle.tree.specs.Lent.lent_of Rattle.tree.specs.Lent.is_size Rattle.tree.specs.Lent.blocks Rattle.tree.specs.Lent.sizes_hold
    Rattle.tree.specs.Lent.block_at Rattle.tree.specs.Lent.in_image Rattle.tree.specs.State.with_nodes Rattle.tree.specs.State.with_root
    Rattle.tree.specs.State.with_info Rattle.tree.specs.State.with_counts Rattle.tree.specs.State.with_longest Rattle.tree.specs.State.no_node
    Rattle.tree.specs.State.node_at Rattle.tree.specs.State.put_node Rattle.tree.specs.State.add_node Rattle.tree.specs.State.with_entries
    Rattle.tree.specs.State.changed Rattle.tree.specs.State.marked_dirty Rattle.tree.specs.State.marked_dead Rattle.tree.specs.State.with_place
    Rattle.tree.specs.State.with_level Rattle.tree.specs.State.made Rattle.tree.specs.Workspace.slot_bytes Rattle.tree.specs.Workspace.nodes_from
    Rattle.tree.specs.Workspace.nodes_of Rattle.tree.specs.Workspace.state_of Rattle.tree.specs.Workspace.slot_holds
    Rattle.tree.specs.Workspace.slots_hold Rattle.tree.specs.Workspace.workspace_holds Rattle.tree.specs.Workspace.called
    Rattle.tree.specs.Workspace.scratch_holds Rattle.tree.specs.Workspace.edits Rattle.tree.specs.Hold.key_fits Rattle.tree.specs.Hold.value_fits
    Rattle.tree.specs.Hold.child_holds Rattle.tree.specs.Hold.stands_on_disk Rattle.tree.specs.Hold.node_stands Rattle.tree.specs.Hold.node_holds
    Rattle.tree.specs.Hold.every_live Rattle.tree.specs.Hold.naming Rattle.tree.specs.Hold.named Rattle.tree.specs.Hold.named_once
    Rattle.tree.specs.Hold.hold_together Rattle.tree.specs.Hold.info_holds Rattle.tree.specs.Hold.numbers_hold Rattle.tree.specs.Hold.lent_holds
    Rattle.tree.specs.Load.unbounded Rattle.tree.specs.Load.bound_key Rattle.tree.specs.Load.tighter_lower Rattle.tree.specs.Load.tighter_upper
    Rattle.tree.specs.Load.child_bounds Rattle.tree.specs.Load.load_block Rattle.tree.specs.Load.root_place Rattle.tree.specs.Load.child_place
    Rattle.tree.specs.Load.storage_class Rattle.tree.specs.Load.root_holds Rattle.tree.specs.Load.disk_number Rattle.tree.specs.Load.map_child
    Rattle.tree.specs.Load.map_last Rattle.tree.specs.Load.or_else Rattle.tree.specs.Load.map_floor Rattle.tree.specs.Load.mapping
    Rattle.tree.specs.Load.map_root_holds Rattle.tree.specs.Load.map_address Rattle.tree.specs.Load.address_of Rattle.tree.specs.Load.adopted
    Rattle.tree.specs.Load.load_child Rattle.tree.specs.Lookup.opened_at Rattle.tree.specs.Lookup.opened Rattle.tree.specs.Lookup.above
    Rattle.tree.specs.Lookup.way_from Rattle.tree.specs.Lookup.way Rattle.tree.specs.Lookup.leaf_of Rattle.tree.specs.Lookup.held
    Rattle.tree.specs.Lookup.got_length Rattle.tree.specs.Lookup.get_in Rattle.tree.specs.Lookup.get Rattle.tree.specs.Lookup.last_from
    Rattle.tree.specs.Lookup.floor_from Rattle.tree.specs.Lookup.floor_in Rattle.tree.specs.Lookup.floor Rattle.tree.specs.Lookup.ends_above
    Rattle.tree.specs.Lookup.between Rattle.tree.specs.Lookup.range_enters Rattle.tree.specs.Lookup.range_kids Rattle.tree.specs.Lookup.range_from
    Rattle.tree.specs.Lookup.range_in Rattle.tree.specs.Lookup.range Rattle.tree.specs.Upsert.put_entry Rattle.tree.specs.Upsert.grown_longest
    Rattle.tree.specs.Upsert.put_in_leaf Rattle.tree.specs.Upsert.upsert_on Rattle.tree.specs.Upsert.entry_fits Rattle.tree.specs.Upsert.upserted
    Rattle.tree.specs.Upsert.upsert_in Rattle.tree.specs.Upsert.upsert Rattle.tree.specs.Remove.drop_node Rattle.tree.specs.Remove.drop_emptied
    Rattle.tree.specs.Remove.leveled_root Rattle.tree.specs.Remove.handed_down Rattle.tree.specs.Remove.has_only_child
    Rattle.tree.specs.Remove.root_taken Rattle.tree.specs.Remove.hand_down Rattle.tree.specs.Remove.take_from_leaf Rattle.tree.specs.Remove.shrunk_on
    Rattle.tree.specs.Remove.remove_on Rattle.tree.specs.Remove.removed Rattle.tree.specs.Remove.remove_in Rattle.tree.specs.Remove.remove
    Rattle.tree.specs.Omap.is_omap Rattle.tree.specs.Omap.versions_end Rattle.tree.specs.Omap.remove_all Rattle.tree.specs.Omap.dropped
    Rattle.tree.specs.Omap.omap_value Rattle.tree.specs.Omap.omap_drop_in Rattle.tree.specs.Omap.omap_drop Rattle.tree.specs.Omap.omap_put_in
    Rattle.tree.specs.Omap.omap_put Rattle.tree.specs.Answers.opened_of Rattle.tree.specs.Answers.opened_in Rattle.tree.specs.Answers.copied_of
    Rattle.tree.specs.Answers.got_means Rattle.tree.specs.Answers.got_in Rattle.tree.specs.Answers.got_bytes Rattle.tree.specs.Answers.got_output
    Rattle.tree.specs.Answers.record_in Rattle.tree.specs.Answers.floor_means Rattle.tree.specs.Answers.floored_in
    Rattle.tree.specs.Answers.floored_output Rattle.tree.specs.Answers.range_means Rattle.tree.specs.Answers.ranged_in
    Rattle.tree.specs.Answers.ranged_output Rattle.tree.specs.Answers.put_value Rattle.tree.specs.Answers.lent_value
    Rattle.tree.specs.Answers.edited_of Rattle.tree.specs.Answers.removed_of Rattle.flush.specs.Flush.slot_number Rattle.flush.specs.Flush.type_of
    Rattle.flush.specs.Flush.build_of Rattle.flush.specs.Flush.rewritten Rattle.flush.specs.Flush.write_at Rattle.flush.specs.Flush.write_node
    Rattle.flush.specs.Flush.write_kids Rattle.flush.specs.Flush.write_from Rattle.flush.specs.Flush.dead_blocks Rattle.flush.specs.Flush.dead_ids
    Rattle.flush.specs.Flush.sum_kids Rattle.flush.specs.Flush.sum_from Rattle.flush.specs.Flush.dirty_reached Rattle.flush.specs.Flush.ids_wanted
    Rattle.flush.specs.Flush.fill Rattle.flush.specs.Flush.flushed Rattle.flush.specs.Flush.lists_hold Rattle.flush.specs.Flush.flush_in
    Rattle.flush.specs.Flush.flush Rattle.flush.specs.Answers.pairs_of Rattle.flush.specs.Answers.lists_of Rattle.flush.specs.Answers.flushed_of
    Rattle.flush.specs.Answers.flushed_means Rattle.flush.specs.Answers.flushed_in Rattle.flush.specs.Space.chunk_blocks
    Rattle.flush.specs.Space.is_used Rattle.flush.specs.Space.mark_used Rattle.flush.specs.Space.ones_below Rattle.flush.specs.Space.first_zero
    Rattle.flush.specs.Space.first_free Rattle.flush.specs.Space.zeros_below Rattle.flush.specs.Space.zeros Rattle.flush.specs.Space.choose_from
    Rattle.flush.specs.Space.choose Rattle.flush.specs.Space.taken Rattle.flush.specs.Space.allocated Rattle.flush.specs.Space.lesser
    Rattle.flush.specs.Space.usable_from Rattle.flush.specs.Space.usable Rattle.flush.specs.Space.chunks_hold Rattle.flush.specs.Space.space_holds
    Rattle.history.specs.Cases.number Rattle.history.specs.Cases.outcome Rattle.history.specs.Cases.tree512 Rattle.history.specs.Cases.pairs
    Rattle.history.specs.Cases.children Rattle.history.specs.Cases.root_of Rattle.history.specs.Cases.lent512 Rattle.history.specs.Cases.on_tree
    Rattle.history.specs.Cases.counts Rattle.history.specs.Cases.sizes Rattle.history.specs.Cases.two_leaves Rattle.history.specs.Cases.key8
    Rattle.history.specs.Cases.variable8 Rattle.history.specs.Cases.versions Rattle.history.specs.Cases.listing Rattle.history.specs.Cases.table
    Rattle.tree.specs.Edit.mark_way Rattle.tree.specs.Edit.mark_dirty Rattle.tree.specs.Edit.touch Rattle.tree.specs.Edit.set_index_key
    Rattle.tree.specs.Edit.index_keys Rattle.tree.specs.Edit.more_nodes Rattle.tree.specs.Edit.room_for Rattle.tree.specs.Edit.parted
    Rattle.tree.specs.Edit.link_right Rattle.tree.specs.Edit.root_entries Rattle.tree.specs.Edit.grow_root Rattle.tree.specs.Edit.new_root_holds
    Rattle.tree.specs.Edit.cut_at Rattle.tree.specs.Edit.cut_node Rattle.tree.specs.Edit.cuts Rattle.history.specs.Walk.moved_to
    Rattle.history.specs.Walk.resolve Rattle.history.specs.Walk.joined Rattle.history.specs.Walk.walk_kids Rattle.history.specs.Walk.walk_below
    Rattle.history.specs.Walk.walk_from Rattle.history.specs.Walk.counts_hold Rattle.history.specs.Walk.map_disk
    Rattle.history.specs.Walk.lengths_are16 Rattle.history.specs.Walk.map_formed Rattle.history.specs.Walk.well_formed
    Rattle.history.specs.Walk.blocks_of Rattle.history.specs.Walk.ids_of Rattle.history.specs.Walk.visits_of Rattle.history.specs.Walk.list_of
    Rattle.history.specs.Walk.map_blocks
ruled_out = refl
