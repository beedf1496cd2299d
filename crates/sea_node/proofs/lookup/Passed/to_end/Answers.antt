use Rattle.std.proofs.Common.{◌≡◌, false, arith, rules}
use Rattle.std.specs.Option.{is_none}
use Rattle.sea_node.specs.Reading.{entry_in}
use Rattle.sea_node.proofs.Lookups.{entry_ends}
use Rattle.sea_node.proofs.Leaps.{GoesFar, goes_on, goes_far}
use Rattle.sea_node.proofs.lookup.Passed.to_end.Goals as goal

pub rest-smaller : goal.rest-smaller
rest-smaller c =
    let bytes = c.args.bytes.now in
    let entry = c.in-Some.entry in
    let on = c.in-Some.ensures in
    let ends = entry_ends bytes (entry_in bytes entry) c.rest.last.end entry.end c.requires.block c.rest.invariant.span.within on.0.0.1 in
    let further = c.leap-last-in-Some.ensures.further in
    let within = c.leap-last-in-Some.ensures.span.within in omega arith

pub rest-init : goal.rest-init
rest-init c =
    let bytes = c.args.bytes.now in
    let self = c.args.self in
    let some : is_none c.args.self.next ≡ false = first_of (cc, search rules) in
    let begun : GoesFar bytes c.args.level self self.last = record { passed = λ key es begun passes. (es, begun, passes); front = c.requires.spans.front; span = c.requires.spans.last_is } in
    goes_far bytes c.requires.block c.args.level _ self self.last c.leap-last.result some begun (c.leap-last.ensures.leaps c.args.level c.requires.value)

pub rest-preserved : goal.rest-preserved
rest-preserved c =
    let bytes = c.args.bytes.now in
    let len = c.requires.block in
    let self = c.args.self in
    let entry = c.in-Some.entry in
    let on = c.in-Some.ensures in
    let some : is_none c.args.self.next ≡ false = first_of (cc, search rules) in
    goes_far bytes len c.args.level _ self entry c.leap-last-in-Some.result some (goes_on bytes len c.args.level self c.rest.last entry some c.rest.invariant on) (c.leap-last-in-Some.ensures.leaps c.args.level on.0.1)
