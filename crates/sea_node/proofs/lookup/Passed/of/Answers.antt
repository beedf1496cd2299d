use Rattle.std.proofs.Common.{List, ℕ, sym, subst, ◌∙◌}
use Rattle.std.proofs.lemmas.Bool.{false≢true}
use Rattle.sea_node.specs.Lookup.{IsRead, Passes}
use Rattle.sea_node.proofs.ReadNodes.{spelled_front}
use Rattle.sea_node.proofs.ReadLookups.{not_enough, is_spelled}
use Rattle.sea_node.proofs.lookup.Passed.of.Goals as goal

pub returns-in_default-clause-none : goal.returns-in_default-clause-none
returns-in_default-clause-none c = λ level entries spells.
    c.in_default.ensures.level level _ spells.node.level_fits (spelled_front c.args.block.now level entries spells)

pub returns-then-not-is_enough-clause-none : goal.returns-then-not-is_enough-clause-none
returns-then-not-is_enough-clause-none c = λ level es spells.
    let block = c.args.block.now in
    let passed = c.in-Some-through.passed in
    let key = c.bytes-2.result.now in
    let some = c.in-Some-through.ensures.some in
    let read = subst (λ (b : List ℕ). IsRead b c.in-Some.level some.0) c.bytes.ensures.bytes some.1 in
    let passes = subst (λ (b : List ℕ). Passes b key some.0 passed) (c.bytes.ensures.bytes ∙ sym c.bytes-3.ensures.bytes) some.2 in
    not_enough block c.in-Some.level some.0 c.in-Some.ensures.level read (λ enough. false≢true (sym c.if-not-is_enough.true ∙ (c.is_enough.ensures key some.0 read.rising passes).1 enough)) level es spells

pub returns-clause-some : goal.returns-clause-some
returns-clause-some c =
    let block = c.args.block.now in
    let passed = c.in-Some-through.passed in
    let key = c.bytes-2.result.now in
    let some = c.in-Some-through.ensures.some in
    let read = subst (λ (b : List ℕ). IsRead b c.in-Some.level some.0) c.bytes.ensures.bytes some.1 in
    let passes = subst (λ (b : List ℕ). Passes b key some.0 passed) (c.bytes.ensures.bytes ∙ sym c.bytes-3.ensures.bytes) some.2 in
    let told = subst (λ (k : List ℕ). Passes block k some.0 passed) c.bytes-2.ensures.bytes (subst (λ (b : List ℕ). Passes b key some.0 passed) c.bytes.ensures.bytes some.2) in
    (some.0, is_spelled block c.in-Some.level some.0 c.in-Some.ensures.level read c.bytes.ensures.length ((c.is_enough.ensures key some.0 read.rising passes).0 c.if-not-is_enough.false), told)
