use Rattle.std.proofs.Common.{rules, ◌≡◌, ◌∷◌, ◌++◌, ◌+◌, ◌<◌, [], List, length, take, sym, subst, arith}
use Rattle.sea_formed.specs.declared.object.Held.{Held}
use Rattle.sea_formed.specs.Blocks.{store_of}
use Rattle.sea_formed.specs.Held.{AreHeld}
use Rattle.sea_formed.proofs.Gathered.{listed_one, held_more}
use Rattle.sea_formed.proofs.object.read_objects.Goals as goal

pub loop-name-preserved : goal.loop-name-preserved
loop-name-preserved c =
    let store = store_of c.args.blocks.now in
    let h = c.in_ok-read_object.field-0 in
    let one = listed_one store c.args.next h c.loop-name-item.result c.in_ok-onode.onode c.bytes.result.now c.in_ok-read_object.ensures.held c.in_ok-read_object.ensures.name c.in_ok-read_object.ensures.onode c.in_ok-onode.ensures.spelled c.bytes.ensures c.in_ok-onode.ensures.limits in
    let within : c.loop-name.name-index < length c.args.pairs.now = omega arith in
    let pushed : c.push.new.self.items ≡ c.loop-name.held.items ++ h ∷ [] = search rules in
    subst (λ (hs : List Held). AreHeld store c.args.next (take (c.loop-name.name-index + 1) c.args.pairs.now) hs) (sym pushed) (held_more store c.args.next c.args.pairs.now c.loop-name.name-index c.loop-name.held.items h c.loop-name-item.result within c.loop-name-item.is c.loop-name.invariant one)
