use Rattle.std.proofs.Common.{◌≡◌, length, arith, ap, ◌∙◌}
use Rattle.std.proofs.lemmas.Result.{IfOk-weaker}
use Rattle.sea_base.specs.Digest.{sha256}
use Rattle.sea_segment.specs.Seal.{sealed}
use Rattle.sea_segment.proofs.Seals.{seal_written}
use Rattle.sea_segment.proofs.seal.seal.Goals as goal

pub returns : goal.returns
returns c =
    let front = c.args.front.items in
    let at = c.len-at.result in
    let len : length front ≡ at = omega (arith, c.args.front.ok.0, c.len-at.ensures) in
    let written = seal_written front at len c.resize.new.self.items c.truncate.new.self.items c.extend_from_slice.new.self.items c.resize-2.new.self.items c.digest_of-digest.result.0 c.args.front.len c.extend_from_slice.new.self.len (omega arith) (omega arith)
    c.in_ok-resize.ensures.items (c.digest_of-digest.ensures ∙ ap sha256 c.deref.ensures.value) c.truncate.ensures.items c.in_ok-extend_from_slice.ensures.items c.extend_from_slice.new.self.ok.0 c.in_ok-resize-2.ensures.items in
    IfOk-weaker c.from_vec.result (λ block. block ≡ c.resize-2.new.self.items) (λ block. block ≡ sealed front) (λ block is. is ∙ written) c.from_vec.ensures
