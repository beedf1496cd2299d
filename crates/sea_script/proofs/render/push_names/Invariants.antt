use Rattle.std.proofs.Common.{◌≡◌, ◌∷◌, ◌++◌, take, length}
use Rattle.std.specs.Prelude.{string_bytes}
use Rattle.std.specs.List.{flat_map}
use Rattle.std.specs.Fmt.{decimal}
use Rattle.sea_script.specs.Word.{name_text}
use Rattle.sea_script.proofs.render.push_names.Given as goal

abbrev pub invariant-loop-name : goal.invariant-loop-name
invariant-loop-name l =
    string_bytes l.text ≡ string_bytes l.fn.text ++ (108 ∷ decimal (length l.names) ++ flat_map (λ name. 32 ∷ name_text name) (take l.name-index l.names))
