use Rattle.std.proofs.Common.{map as each, List, subst, arith}
use Rattle.sea_node.specs.Entries.{Entry}
use Rattle.sea_formed.specs.declared.object.Held.{Held}
use Rattle.sea_formed.specs.Blocks.{store_of}
use Rattle.sea_formed.specs.Held.{AreHeld}
use Rattle.sea_formed.specs.Shares.{AreFar}
use Rattle.sea_formed.proofs.WellFormed.{alone_in, used_in, shared_out, well_formed}
use Rattle.sea_formed.proofs.formed.objects_in.Goals as goal

pub returns : goal.returns
returns c =
    let store = store_of c.args.blocks.now in
    let next = c.args.next in
    let tree = c.in_ok-onodes.onodes in
    let held = c.in_ok-held.held.items in
    let filled = c.in_ok-filled.filled.items in
    let read = subst (λ (ps : List Entry). AreHeld (store_of c.args.blocks.now) c.args.next ps c.in_ok-held.held.items) c.deref.ensures.value c.in_ok-held.ensures in
    let ranges = subst (λ (hs : List Held). AreFar 4098 (each (λ one. one.onode.base.0) hs)) c.deref-2.ensures.value c.in_ok-check_ranges.ensures in
    let alone = alone_in tree.nodes.items _ held _ c.deref-3.ensures.value c.deref-4.ensures.value (record {
      onodes = c.in_ok-check_alone.ensures.own;
      attributes = c.in_ok-check_alone.ensures.attributes;
      omaps = c.in_ok-check_alone.ensures.omaps;
    }) in
    let used = used_in next filled _ tree.nodes.items _ held _ c.deref-5.ensures.value c.deref-6.ensures.value c.deref-7.ensures.value (record {
      apart = c.in_ok-check_filled.ensures.apart;
      used = c.in_ok-check_filled.ensures.used;
      within = c.in_ok-check_filled.ensures.within;
      ends = c.in_ok-check_filled.ensures.ends;
    }) in
    well_formed store next tree.pairs.items tree.nodes.items held filled c.in_ok-onodes.ensures.tree read (shared_out next filled tree.nodes.items held (omega arith) ranges alone used) c.in_ok-filled.ensures
