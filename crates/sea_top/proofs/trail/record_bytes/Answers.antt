use Rattle.std.proofs.Common.{◌≡◌, ℕ, ◌+◌, ◌-◌, ◌*◌, ◌≤◌, List, ◌++◌, Some, Vec, Global, ap, ◌∙◌, arith}
use Rattle.std.specs.Prelude.{slice_range}
use Rattle.sea_top.specs.declared.record.PlainRecord.{PlainRecord}
use Rattle.sea_top.specs.Record.{blocks_of}
use Rattle.sea_top.specs.Trail.{StandsAt}
use Rattle.sea_top.proofs.Readings.{IfSome-from, IfSome-at, none_behind, first_block, holds_record, stands_within, blocks_of-some}
use Rattle.sea_base.proofs.Slices.{slice_then}
use Rattle.sea_top.proofs.trail.record_bytes.Given.{Over}
use Rattle.sea_top.proofs.trail.record_bytes.Goals as goal
use Rattle.sea_top.proofs.trail.record_bytes.Goals.{After-u32_at-count, then-count-gt1+in_ok-append_blocks-2, else-count-gt1}

-- the first block that was read
first : (g : Over) (c : After-u32_at-count g) (image : List ℕ) → g.D.Device.contents c.args.device.now ≡ Some image → c.append_blocks.new.bytes.items ≡ slice_range image (4096 * c.args.place) (4096 * (c.args.place + 1))
first g c image told =
    let part = slice_range image (4096 * c.args.place) (4096 * (c.args.place + 1)) in
    IfSome-at (λ (image : List ℕ). c.append_blocks.new.bytes.items ≡ c.new-bytes.result.items ++ slice_range image (4096 * c.args.place) (4096 * (c.args.place + 1))) image told c.in_ok-append_blocks.ensures.bytes ∙ ap (λ (old : List ℕ). old ++ part) c.new-bytes.ensures.items

-- the number in the first block is that of the blocks of a record that stands there
counts : (g : Over) (c : After-u32_at-count g) (image : List ℕ) → g.D.Device.contents c.args.device.now ≡ Some image → (plain : PlainRecord) → StandsAt image c.args.place plain → c.u32_at-count.result ≡ blocks_of plain.pieces
counts g c image told plain stands =
    let few : blocks_of plain.pieces ≤ 1024 = stands.plain_record.blocks in
    c.u32_at-count.ensures.only (blocks_of plain.pieces) (omega arith) (ap (λ (bytes : List ℕ). slice_range bytes 16 (16 + 4)) (c.deref.ensures.value ∙ first g c image told) ∙ first_block image c.args.place plain stands)

pub returns-then-left-eq0-clause-bytes : goal.returns-then-left-eq0-clause-bytes
returns-then-left-eq0-clause-bytes g c =
    IfSome-from (g.D.Device.contents c.args.device.now) _ (λ image told.
    none_behind image c.args.place (g.D.Device.size c.args.device.now) (g.met.D.Device.whole c.args.device.now image told).size (omega arith))

pub returns-then-count-eq0-clause-bytes : goal.returns-then-count-eq0-clause-bytes
returns-then-count-eq0-clause-bytes g c =
    let c' = (goal.at.returns-then-count-eq0-clause-bytes g c).After-u32_at-count in
    IfSome-from (g.D.Device.contents c.args.device.now) _ (λ image told plain stands.
    let size = g.D.Device.size c.args.device.now in
    let count : c.u32_at-count.result ≡ blocks_of plain.pieces = counts g c' image told plain stands in
    let few : blocks_of plain.pieces ≤ 1024 = stands.plain_record.blocks in
    let within : c.args.place + blocks_of plain.pieces ≤ size = stands_within image c.args.place size plain (g.met.D.Device.whole c.args.device.now image told).size stands in
    let some : 1 ≤ blocks_of plain.pieces = blocks_of-some plain.pieces in
    omega arith)

pub returns-clause-bytes : goal.returns-clause-bytes
returns-clause-bytes g c =
    let c' = (goal.at.returns-clause-bytes g c).After-u32_at-count in
    let place = c.args.place in
    let count = c.u32_at-count.result in
    IfSome-from (g.D.Device.contents c.args.device.now) _ (λ image told.
    holds_record image place count c.if-count-gt1.bytes.items (elim c.if-count-gt1.branch [
      | then-count-gt1+in_ok-append_blocks-2 w ↦ (
          let behind = slice_range image (4096 * (place + 1)) (4096 * (place + 1 + (count - 1))) in
          let second = IfSome-at (λ (image : List ℕ). w.append_blocks-then-count-gt1.new.bytes.items ≡ c.append_blocks.new.bytes.items ++ slice_range image (4096 * (place + 1)) (4096 * (place + 1 + (count - 1)))) image (c.append_blocks.ensures.read.contents ∙ told) w.in_ok-append_blocks-2.ensures.bytes in
          ap (λ (bytes : Vec ℕ Global). bytes.items) w.bytes-is ∙ second ∙ ap (λ (front : List ℕ). front ++ behind) (first g c' image told) ∙ slice_then image (4096 * place) (4096 * (place + 1)) (4096 * (place + 1 + (count - 1))) (omega arith) (omega arith) ∙ ap (λ (n : ℕ). slice_range image (4096 * place) (4096 * n)) (omega arith)
          )
      | else-count-gt1 w ↦ (
          let one : 1 ≡ count = omega arith in
          ap (λ (bytes : Vec ℕ Global). bytes.items) w.bytes-is ∙ first g c' image told ∙ ap (λ (n : ℕ). slice_range image (4096 * place) (4096 * (place + n))) one
          )
    ]) (λ plain stands. counts g c' image told plain stands))
