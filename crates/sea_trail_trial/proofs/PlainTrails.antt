-- The trail of what the plain reader has read.
use Rattle.std.proofs.Common.{◌≡◌, ℕ, ◌+◌, List, [], ◌∷◌, refl, ap}
use Rattle.std.specs.Prelude.{map}
use Rattle.sea_segment.specs.declared.header.Header.{Header}
use Rattle.sea_trail.specs.declared.trail.Part.{Part}
use Rattle.sea_trail.specs.Parts.{AreFound, IsTold}
use Rattle.sea_trail.specs.Trail.{AreClosed, AreHeaders, IsOpen}
use Rattle.sea_trail_trial.proofs.PlainHeaders.{found_of}

found_all : (image : List ℕ) (from to : ℕ) (hs : List Header) → AreHeaders image from to hs → AreFound image from to (map found_of hs)
found_all image from to [] are = are
found_all image from to (h ∷ hs) are = (are.0, are.1, are.2, refl, are.3, found_all image (h.segment + 1) to hs are.4)

pub headers_again : (hs : List Header) → map (λ f. f.header) (map found_of hs) ≡ hs
headers_again [] = refl
headers_again (h ∷ hs) = ap (λ (ks : List Header). h ∷ ks) (headers_again hs)

pub told : (image : List ℕ) (segments : ℕ) (hs : List Header) (closed : List Part) (newest : Part) → AreHeaders image 0 segments hs → IsOpen image segments newest → AreClosed image segments newest closed → IsTold image segments (map found_of hs) closed newest
told image segments hs closed newest headers is_open are_closed =
    record { headers = found_all image 0 segments hs headers; is_open = is_open; are_closed = are_closed }
