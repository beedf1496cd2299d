use Rattle.std.proofs.Common.{◌≡◌, ◌+◌, ◌-◌, length, take, drop, sym, subst, refl, arith, ◌∙◌}
use Rattle.std.proofs.lemmas.List.{take_all, length-drop}
use Rattle.std.proofs.lemmas.Slice.Eq.{bytes_eq-Decides}
use Rattle.sea_segment.specs.Seal.{AreZeros}
use Rattle.sea_segment.proofs.seal.is_sealed.Goals as goal

pub returns-then-is_zero : goal.returns-then-is_zero
returns-then-is_zero c =
    let bytes = c.args.bytes.now in
    let behind = drop (c.args.at + 32) bytes in
    let all : take (length bytes - (c.args.at + 32)) behind ≡ behind = take_all (length bytes - (c.args.at + 32)) behind (omega (arith, length-drop (c.args.at + 32) bytes)) in
    let decides = bytes_eq-Decides c.digest_at.result.0 c.sealed_digest.result.0 in (
      (λ same. record { zero = subst AreZeros all (c.if-is_zero.ensures.0 refl); digest = sym c.digest_at.ensures ∙ decides.0 (sym c.eq.ensures ∙ same) ∙ c.sealed_digest.ensures }),
      (λ seal. c.eq.ensures ∙ decides.1 (c.digest_at.ensures ∙ seal.digest ∙ sym c.sealed_digest.ensures)),
    )
