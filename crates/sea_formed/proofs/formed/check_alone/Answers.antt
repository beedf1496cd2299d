use Rattle.std.proofs.Common.{◌≡◌, ◌+◌, ◌<◌, ℕ, List, length, take, subst, arith}
use Rattle.std.specs.List.{All}
use Rattle.std.proofs.lemmas.List.{take_all}
use Rattle.std.proofs.lemmas.List.Elements.{All-more}
use Rattle.sea_formed.specs.declared.object.Held.{Held}
use Rattle.sea_formed.specs.Shares.{AreAlone}
use Rattle.sea_formed.proofs.formed.check_alone.Goals as goal

pub loop-one-preserved : goal.loop-one-preserved
loop-one-preserved c =
    let held = c.args.held.now in
    let one = c.one-item.result in
    let within : c.loop-one.one-index < length c.args.held.now = omega arith in
    let first = subst (λ (ns : List ℕ). AreAlone held one.onode.base.0 ns) c.deref.ensures.value (c.are_alone-in-loop-one.ensures.0 c.if-not-are_alone-2.false) in
    let second = subst (λ (ns : List ℕ). AreAlone held (one.onode.base.0 + 1) ns) c.deref-in-loop-one.ensures.value (c.are_alone-in-loop-one-2.ensures.0 c.if-not-are_alone-3.false) in
    record {
      attributes = All-more (λ (h : Held). AreAlone held h.onode.base.0 h.attributes.nodes.items) held c.loop-one.one-index one within c.loop-one.invariant.attributes (subst (λ (h : Held). AreAlone held h.onode.base.0 h.attributes.nodes.items) c.one-item.is first);
      omaps = All-more (λ (h : Held). AreAlone held (h.onode.base.0 + 1) h.omap.nodes.items) held c.loop-one.one-index one within c.loop-one.invariant.omaps (subst (λ (h : Held). AreAlone held (h.onode.base.0 + 1) h.omap.nodes.items) c.one-item.is second);
    }

pub returns-clause-attributes : goal.returns-clause-attributes
returns-clause-attributes c =
    let all : take c.loop-one.one-index c.args.held.now ≡ c.args.held.now = take_all c.loop-one.one-index c.args.held.now (omega (arith, c.loop-one-test.false)) in
    subst (λ (hs : List Held). All (λ one. AreAlone c.args.held.now one.onode.base.0 one.attributes.nodes.items) hs) all c.loop-one.invariant.attributes

pub returns-clause-omaps : goal.returns-clause-omaps
returns-clause-omaps c =
    let all : take c.loop-one.one-index c.args.held.now ≡ c.args.held.now = take_all c.loop-one.one-index c.args.held.now (omega (arith, c.loop-one-test.false)) in
    subst (λ (hs : List Held). All (λ one. AreAlone c.args.held.now (one.onode.base.0 + 1) one.omap.nodes.items) hs) all c.loop-one.invariant.omaps
