use Rattle.std.proofs.Common.{◌≡◌, List, ℕ, length, replicate, sym, subst, refl}
use Rattle.std.proofs.lemmas.Bool.{false≢true}
use Rattle.sea_node.proofs.ReadNodes.{whole_from}
use Rattle.sea_node.proofs.ReadLookups.{none_first, not_whole, is_read}
use Rattle.sea_node.proofs.lookup.Passed.through.Goals as goal

pub returns-in_default-clause-none : goal.returns-in_default-clause-none
returns-in_default-clause-none c = none_first c.args.bytes.now c.requires.block c.args.level c.requires.level c.in_default.ensures

pub returns-then-not-is_zero-clause-none : goal.returns-then-not-is_zero-clause-none
returns-then-not-is_zero-clause-none c =
    let bytes = c.args.bytes.now in
    let passed = c.to_end-passed.result in
    let found = c.seek-found.ensures.passed in
    let all = c.to_end-passed.ensures.passed c.args.key.now found.0 found.1 found.2 in
    not_whole bytes c.requires.block c.args.level all.0 c.args.key.now passed all.1 all.2 c.requires.level c.to_end-passed.ensures.ends
    (λ zeros. false≢true (c.if-not-is_zero.ensures.1 (subst (λ (x : List ℕ). x ≡ replicate (length x) 0) (sym (whole_from bytes bytes passed.last.end refl)) zeros)))

pub returns-clause-some : goal.returns-clause-some
returns-clause-some c =
    let bytes = c.args.bytes.now in
    let passed = c.to_end-passed.result in
    let found = c.seek-found.ensures.passed in
    let all = c.to_end-passed.ensures.passed c.args.key.now found.0 found.1 found.2 in
    let zeros = subst (λ (x : List ℕ). x ≡ replicate (length x) 0) (whole_from bytes bytes passed.last.end refl) (c.if-not-is_zero.ensures.0 refl) in
    (all.0, is_read bytes c.requires.block c.args.level passed.last.end all.0 all.1 zeros, all.2)
