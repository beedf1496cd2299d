use Rattle.std.proofs.Common.{◌≡◌, Bool, true, false, refl}
use Rattle.std.specs.Prelude.{not}
use Rattle.std.specs.Cmp.Lexicographic.{other_text, same_text}
use Rattle.sea_pieces.proofs.Seen.{passed, reached}
use Rattle.sea_pieces.proofs.transaction.see.Goals as goal

is_false : (b : Bool) → true ≡ not b → false ≡ b
is_false true e = absurd cc
is_false false e = refl

is_true : (b : Bool) → false ≡ not b → true ≡ b
is_true true e = refl
is_true false e = absurd cc

pub returns-then-ne : goal.returns-then-ne
returns-then-ne c = λ objects e. passed c.args.piece.now objects c.args.name.now c.args.found.now (other_text _ _ (is_false _ c.if-ne.ensures)) e

pub returns : goal.returns
returns c = λ objects e. reached c.args.piece.now objects c.args.name.now c.args.found.now c.lay_over.new.found (same_text _ _ (is_true _ c.if-ne.ensures)) c.in_ok-lay_over.ensures e
