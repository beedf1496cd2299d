use Rattle.std.proofs.Common.{◌≡◌, ◌≤◌, ◌<◌, ◌++◌, ℕ, List, length, get_or, take, subst, ◌∙◌, arith}
use Rattle.std.specs.List.{All, flat_map}
use Rattle.std.proofs.lemmas.List.{take_all}
use Rattle.std.proofs.lemmas.List.Elements.{All-more}
use Rattle.sea_formed.specs.Shares.{HasUse, EndsBefore, nodes_of}
use Rattle.sea_formed.proofs.formed.check_filled.Goals as goal

pub loop-at-preserved : goal.loop-at-preserved
loop-at-preserved c =
    let held = c.args.held.now in
    let filled = c.args.filled.now in
    let index = c.loop-at.at-index in
    let at = get_or c.args.filled.now c.loop-at.at-index 0 in
    let all = c.args.own.now ++ flat_map nodes_of c.args.held.now in
    let inside : c.loop-at.at-index < length c.args.filled.now = omega arith in
    let nodes : c.deref-in-loop-at.result.now ≡ c.args.own.now ++ flat_map nodes_of c.args.held.now = c.deref-in-loop-at.ensures.value ∙ c.in_ok-nodes.ensures in
    record {
      used = All-more (HasUse all held) filled index 0 inside c.loop-at.invariant.used (subst (λ (ns : List ℕ). HasUse ns held at) nodes (c.has_use.ensures c.if-not-has_use.false));
      within = All-more (λ at. (1 ≤ at) × (at < c.args.next)) filled index 0 inside c.loop-at.invariant.within (omega arith, omega arith);
      ends = All-more (λ at. All (λ one. EndsBefore one.onode at) held) filled index 0 inside c.loop-at.invariant.ends (c.ends_before.ensures.0 c.if-not-ends_before.false);
    }

pub returns-clause-used : goal.returns-clause-used
returns-clause-used c =
    let all : take c.loop-at.at-index c.args.filled.now ≡ c.args.filled.now = take_all c.loop-at.at-index c.args.filled.now (omega (arith, c.loop-at-test.false)) in
    subst (λ (ns : List ℕ). All (HasUse (c.args.own.now ++ flat_map nodes_of c.args.held.now) c.args.held.now) ns) all c.loop-at.invariant.used

pub returns-clause-within : goal.returns-clause-within
returns-clause-within c =
    let all : take c.loop-at.at-index c.args.filled.now ≡ c.args.filled.now = take_all c.loop-at.at-index c.args.filled.now (omega (arith, c.loop-at-test.false)) in
    subst (λ (ns : List ℕ). All (λ at. (1 ≤ at) × (at < c.args.next)) ns) all c.loop-at.invariant.within

pub returns-clause-ends : goal.returns-clause-ends
returns-clause-ends c =
    let all : take c.loop-at.at-index c.args.filled.now ≡ c.args.filled.now = take_all c.loop-at.at-index c.args.filled.now (omega (arith, c.loop-at-test.false)) in
    subst (λ (ns : List ℕ). All (λ at. All (λ one. EndsBefore one.onode at) c.args.held.now) ns) all c.loop-at.invariant.ends
