use Rattle.std.proofs.Common.{◌≡◌, ◌∷◌, ◌++◌, take, length}
use Rattle.std.specs.Prelude.{string_bytes}
use Rattle.std.specs.List.{flat_map}
use Rattle.std.specs.Fmt.{decimal}
use Rattle.sea_script.specs.Render.{pair_text_of}
use Rattle.sea_script.proofs.render.push_pairs.Given as goal

abbrev pub invariant-loop-pair : goal.invariant-loop-pair
invariant-loop-pair l =
    string_bytes l.text ≡ string_bytes l.fn.text ++ (112 ∷ decimal (length l.pairs) ++ flat_map pair_text_of (take l.pair-index l.pairs))
