-- The status and the line of each refusal.
use Rattle.std.specs.Prelude.{ℕ, List, [], ◌∷◌, ◌++◌, codes, Option, Some, None}
use Rattle.std.specs.Fmt.{decimal}
use Rattle.sea_top.specs.declared.refusal.Refusal.{Refusal}
use Rattle.sea_top.specs.declared.refusal.Refusal.TheVariants.{Usage, Script, DeviceFault, NoMemory, ReadFault}
use Rattle.sea_plain_script.specs.declared.script.ScriptWhy.{ScriptWhy}
use Rattle.sea_plain_script.specs.declared.script.ScriptWhy.TheVariants.{NotBuilt}

abbrev pub status_of : Refusal → ℕ
status_of Usage = 1
status_of (Script line why) = 2
status_of DeviceFault = 3
status_of NoMemory = 5
status_of ReadFault = 6

-- status 0 stands for no refusal
abbrev pub status_at : Option Refusal → ℕ
status_at None = 0
status_at (Some refusal) = status_of refusal

unfoldable pub why_text : ScriptWhy → List ℕ
why_text NotBuilt = codes "NotBuilt"

unfoldable pub refusal_line : Refusal → List ℕ
refusal_line Usage = codes "usage" ++ 10 ∷ []
refusal_line (Script line why) = codes "script " ++ decimal line ++ 32 ∷ why_text why ++ 10 ∷ []
refusal_line DeviceFault = codes "device fault" ++ 10 ∷ []
refusal_line NoMemory = codes "no memory" ++ 10 ∷ []
refusal_line ReadFault = codes "read fault" ++ 10 ∷ []

-- nothing is printed where nothing is refused
abbrev pub ending_line : Option Refusal → List ℕ
ending_line None = []
ending_line (Some refusal) = refusal_line refusal
