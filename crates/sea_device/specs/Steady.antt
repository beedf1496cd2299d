-- What the laws of a device need of the one whose calls never fail.
use Rattle.std.specs.Prelude.{◌≡◌, ℕ, ◌*◌, ◌<◌, List, length, slice_index, Some}
use Rattle.sea_device.specs.Device.{IsImage}
use Rattle.std.proofs.Common.{subst}

pub whole_image : (blocks : ℕ) (bytes b : List ℕ) → length bytes ≡ 4096 * blocks
    → ((i : ℕ) → slice_index bytes i < 256) → Some bytes ≡ Some b → IsImage blocks b
whole_image blocks bytes b size fits is = let same : bytes ≡ b = cc in
    subst (IsImage blocks) same (record { size = size; fits = fits })
