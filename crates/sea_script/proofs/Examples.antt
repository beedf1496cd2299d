-- Small examples that the definitions hold of, and what they refuse.
use Rattle.std.proofs.Common.{◌≡◌, inl, false, [], ◌∷◌, ◌++◌, codes, refl, arith}
use Rattle.std.specs.Prelude.{None}
use Rattle.std.specs.Fmt.{digits}
use Rattle.sea_object.specs.declared.op.Op.TheVariants.{Read}
use Rattle.sea_object.specs.Request.{IsRequest}
use Rattle.sea_script.specs.declared.asked.Asked.{Asked}
use Rattle.sea_script.specs.declared.table.Kind.TheVariants.{Name, Bytes}
use Rattle.sea_script.specs.declared.table.Verb.TheVariants as verb
use Rattle.sea_script.specs.Operation.{Spells}
use Rattle.sea_script.specs.Script.{Asks, IsBlank, IsScript, IsText, lines, parts, words}
use Rattle.sea_script.specs.Table.{IsCount, kinds_for, word_of}
use Rattle.sea_script.specs.Word.{byte_text, name_text}

-- ---- the table

pub read_word : word_of verb.Read ≡ codes "read"
read_word = refl

pub kinds_of_pairs : kinds_for verb.OmapSetKeys 5 ≡ Name ∷ Name ∷ Bytes ∷ Name ∷ Bytes ∷ []
kinds_of_pairs = refl

pub two_pairs : IsCount verb.OmapSetKeys 5
two_pairs = (omega arith, refl)

pub half_pair : IsCount verb.OmapSetKeys 4 → ⊥
half_pair is = omega (arith, is.1)

pub after_two : IsCount verb.List 3 → ⊥
after_two is = omega (arith, is.1)

-- ---- lines and words

pub two_lines : lines (codes "a" ++ 10 ∷ []) ≡ codes "a" ∷ [] ∷ []
two_lines = refl

pub five_words : words (codes "1 read a 0 1") ≡ codes "1" ∷ codes "read" ∷ codes "a" ∷ codes "0" ∷ codes "1" ∷ []
five_words = refl

pub two_parts : parts (codes "stat" ∷ codes "a" ∷ codes ";" ∷ codes "list" ∷ codes "1" ∷ []) ≡ (codes "stat" ∷ codes "a" ∷ []) ∷ (codes "list" ∷ codes "1" ∷ []) ∷ []
two_parts = refl

pub comment : IsBlank (codes "# a")
comment = refl

pub two_spaces : IsText (codes "a  b") → ⊥
two_spaces is = omega (arith, is.1.1.0)

-- ---- scripts

abbrev reads_one : Asked
reads_one = record { client = 1; request = Read (codes "a") 0 1 ∷ [] }

pub spells_read : Spells (codes "read" ∷ codes "a" ∷ codes "0" ∷ codes "1" ∷ []) (Read (codes "a") 0 1)
unfolding name_text byte_text digits
spells_read = record {
  counted = (omega arith, refl);
  listed = refl;
  good = (((omega arith, omega arith), (omega arith, tt)), (omega arith, (omega arith, tt)));
  words_are = refl;
}

pub is_request : IsRequest (Read (codes "a") 0 1 ∷ [])
is_request = record {
  some = omega arith;
  few = omega arith;
  each = (((omega arith, (omega arith, omega arith)), tt), tt);
  blocks = omega arith;
  keys = omega arith;
}

pub asks_one : Asks (words (codes "1 read a 0 1")) reads_one
unfolding digits
asks_one =
    ((codes "read" ∷ codes "a" ∷ codes "0" ∷ codes "1" ∷ [], ((omega arith, omega arith), refl), (spells_read, tt)), is_request)

pub nothing_asked : IsScript false [] (record { plan = [] ∷ []; events = [] })
nothing_asked = record {
  short = omega arith;
  given = record { asked = []; events = None };
  give = (record { asked = []; events = None }, inl (tt, refl), refl);
  plan = refl;
  events = refl;
}
