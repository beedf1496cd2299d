-- How an operation is taken back.
use Rattle.std.specs.Prelude.{ℕ, ◌+◌, ◌≤◌, List, length, take, IsSome}
use Rattle.std.specs.FinMap as map
use Rattle.sea_plain.specs.declared.patch.Saved.{Saved}
use Rattle.sea_plain.specs.declared.objects.Undo.{Undo}
use Rattle.sea_plain.specs.declared.objects.Undo.TheVariants.{Nothing, Made, Written}
use Rattle.sea_plain.specs.Objects.{ObjectMap, object_at, with_bytes}
use Rattle.sea_plain.specs.Answer.{written}

-- what is saved can be put back into these bytes
abbrev pub Fits : Saved → List ℕ → Type 0
Fits saved bytes = (saved.offset + length saved.bytes ≤ saved.size) × (saved.size ≤ length bytes)

-- the bytes cut to their size before, and what is saved put back
abbrev pub restored : Saved → List ℕ → List ℕ
restored saved bytes = written saved.offset saved.bytes (take saved.size bytes)

-- the operation on the object of this name can be taken back from these objects
abbrev pub CanUndo : Undo → List ℕ → ObjectMap → Type 0
CanUndo Nothing name objects = Unit {0}
CanUndo Made name objects = Unit {0}
CanUndo (Written saved) name objects =
    IsSome (map.get objects name) × Fits saved (object_at objects name).bytes

-- the objects once it is
abbrev pub undone : Undo → List ℕ → ObjectMap → ObjectMap
undone Nothing name objects = objects
undone Made name objects = map.remove objects name
undone (Written saved) name objects =
    with_bytes objects name (restored saved (object_at objects name).bytes)
