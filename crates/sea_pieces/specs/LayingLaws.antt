-- What the pieces of operations make of objects is what the operations do.
use Rattle.std.proofs.Common.{◌≡◌, ℕ, ◌≤◌, List, [], ◌∷◌, ◌++◌, length, Option, Some, None, refl}
use Rattle.std.proofs.Common.{sym, ap, ◌∙◌, arith}
use Rattle.std.specs.List.{AllByRecursion}
use Rattle.std.specs.Prelude.{unwrap_or}
use Rattle.std.specs.FinMap as map
use Rattle.sea_object.specs.declared.op.Op.{Op}
use Rattle.sea_object.specs.declared.op.Op.TheVariants.{Touch, Write, Read, Stat}
use Rattle.sea_object.specs.Answer.{effect, effects, object_after, with_bytes, written}
use Rattle.sea_object.specs.Objects.{ObjectMap, ObjectValue, empty_object, with_object}
use Rattle.sea_object.specs.Op.{IsWithinLimits}
use Rattle.sea_pieces.specs.declared.piece.Piece.{Piece}
use Rattle.sea_pieces.specs.Laying.{IsServed, after_piece, after_pieces, laid, object_under}
use Rattle.sea_pieces.specs.Laying.{op_pieces, pieces_of}

pub after_pieces-append : (front back : List Piece) (objects : ObjectMap)
    → after_pieces (front ++ back) objects ≡ after_pieces back (after_pieces front objects)
after_pieces-append [] back objects = refl
after_pieces-append (piece ∷ front) back objects =
    after_pieces-append front back (after_piece piece objects)

pub written_laid : (offset : ℕ) (bytes old : List ℕ) → 1 ≤ length bytes
    → laid offset bytes old ≡ written offset bytes old
written_laid offset [] old some = absurd (omega arith)
written_laid offset (b ∷ bytes) old some = refl

made : (name : List ℕ) (found : Option ObjectValue) (objects : ObjectMap)
    → with_object objects name (object_after (Touch name) found)
    ≡ map.insert objects name (unwrap_or found empty_object)
made name None objects = refl
made name (Some object) objects = refl

wrote : (name : List ℕ) (offset : ℕ) (bytes : List ℕ) (found : Option ObjectValue)
    (objects : ObjectMap)
    → with_object objects name (object_after (Write name offset bytes) found)
    ≡ map.insert objects name
    (with_bytes (written offset bytes (unwrap_or found empty_object).bytes)
    (unwrap_or found empty_object))
wrote name offset bytes None objects = refl
wrote name offset bytes (Some object) objects = refl

-- an operation has the effect of its pieces
pub effect_laid : (op : Op) (objects : ObjectMap) → IsServed op → IsWithinLimits op
    → effect op objects ≡ after_pieces (op_pieces op) objects
effect_laid (Touch name) objects served within = made name (map.get objects name) objects
effect_laid (Write name offset bytes) objects served within =
    wrote name offset bytes (map.get objects name) objects
    ∙ ap (λ (b : List ℕ). map.insert objects name (with_bytes b (object_under objects name)))
    (sym (written_laid offset bytes (object_under objects name).bytes within.0.0))
effect_laid (Read name offset count) objects served within = refl
effect_laid (Stat name) objects served within = refl
effect_laid _ objects served within = absurd served

-- and operations in order that of theirs
pub effects_laid : (ops : List Op) (objects : ObjectMap) → AllByRecursion IsServed ops
    → AllByRecursion IsWithinLimits ops → effects ops objects ≡ after_pieces (pieces_of ops) objects
effects_laid [] objects served within = refl
effects_laid (op ∷ ops) objects served within =
    effects_laid ops (effect op objects) served.1 within.1
    ∙ ap (after_pieces (pieces_of ops)) (effect_laid op objects served.0 within.0)
    ∙ sym (after_pieces-append (op_pieces op) (pieces_of ops) objects)
