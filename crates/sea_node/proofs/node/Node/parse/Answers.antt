use Rattle.std.proofs.Common.{List, drop, arith, sym, subst, refl, ◌≤◌}
use Rattle.std.proofs.lemmas.Bool.{false≢true}
use Rattle.std.proofs.lemmas.List.{length-drop}
use Rattle.sea_node.specs.Entries.{Entry, size}
use Rattle.sea_node.specs.Node.{IsNode}
use Rattle.sea_node.specs.Reading.{AreEntries}
use Rattle.sea_node.proofs.ReadNodes.{spelled_front, spelled_entries, node_read, only_read, room_of}
use Rattle.sea_node.proofs.node.Node.parse.Goals as goal

pub returns-in_default-clause-none : goal.returns-in_default-clause-none
returns-in_default-clause-none c = λ level entries spells.
    c.in_default.ensures.level level _ spells.node.level_fits (spelled_front c.args.block.now level entries spells)

pub returns-in_default-2-clause-none : goal.returns-in_default-2-clause-none
returns-in_default-2-clause-none c = λ level entries spells.
    let none = rw c.in_default-2.is at c.in_ok-entries.ensures in none entries (spelled_entries c.args.block.now level entries spells)

pub is_node-requires-clause-fits : goal.is_node-requires-clause-fits
is_node-requires-clause-fits c =
    let found : AreEntries (drop 32 c.args.block.now) c.in-Some-2.entries = rw c.in-Some-2.is at c.in_ok-entries.ensures in
    let room = room_of (drop 32 c.args.block.now) c.in-Some-2.entries (omega (arith, length-drop 32 c.args.block.now, c.read_level.ensures.length)) found in
    subst (λ (es : List Entry). size es ≤ 4064) (sym c.items.ensures) room

pub returns-then-not-is_node-clause-none : goal.returns-then-not-is_node-clause-none
returns-then-not-is_node-clause-none c = λ level entries spells.
    let found : AreEntries (drop 32 c.args.block.now) c.in-Some-2.entries = rw c.in-Some-2.is at c.in_ok-entries.ensures in
    let node = only_read c.args.block.now c.in-Some.level level c.in-Some-2.entries entries c.in-Some.ensures.level found spells in
    false≢true (c.if-not-is_node.ensures.1 (subst (IsNode c.in-Some.level) (sym c.items.ensures) node))

pub returns-clause-some : goal.returns-clause-some
returns-clause-some c =
    let found : AreEntries (drop 32 c.args.block.now) c.in-Some-2.entries = rw c.in-Some-2.is at c.in_ok-entries.ensures in
    node_read c.args.block.now c.in-Some.level c.in-Some-2.entries c.read_level.ensures.length c.in-Some.ensures.level found (subst (IsNode c.in-Some.level) c.items.ensures (c.if-not-is_node.ensures.0 refl))
