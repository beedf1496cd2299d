-- What the blocks of an image say of the record that stands at a place.
use Rattle.std.proofs.Common.{◌≡◌, ℕ, ◌+◌, ◌-◌, ◌*◌, ◌≤◌, List, [], ◌++◌, length, take, drop, Option, Some, None, IfSome, refl, sym, ap, ◌∙◌, arith, append_assoc}
use Rattle.std.specs.Prelude.{slice_range}
use Rattle.std.proofs.lemmas.List.{append-nil, length-drop, length-append, take_at, take-take, take-append-drop}
use Rattle.std.proofs.lemmas.Option.{MatchOption-at_some}
use Rattle.sea_base.specs.Field.{big_endian}
use Rattle.sea_top.specs.declared.record.Piece.{Piece}
use Rattle.sea_top.specs.declared.record.PlainRecord.{PlainRecord}
use Rattle.sea_top.specs.Record.{blocks_of, spelling, BeginsWith}
use Rattle.sea_top.specs.Trail.{StandsAt, NoneStandsAt, NoneContinues, HoldsRecord}
use Rattle.sea_top.proofs.Chains.{front_part, same_begun}
use Rattle.sea_top.proofs.RecordBytes.{count_field, length-spelling}

-- what is shown for each value that is told
pub IfSome-from : {X : Type 0} (told : Option X) (P : X → Type 0) → ((x : X) → told ≡ Some x → P x) → IfSome told P
IfSome-from None P each = tt
IfSome-from (Some x) P each = each x refl

-- and what is known of the value that is told
pub IfSome-at : {X : Type 0} {told : Option X} (P : X → Type 0) (x : X) → told ≡ Some x → IfSome told P → P x
IfSome-at P x = MatchOption-at_some (Unit {0}) P x

pub blocks_of-some : (pieces : List Piece) → 1 ≤ blocks_of pieces
unfolding blocks_of
blocks_of-some pieces = omega arith

-- a record lies within its image
pub stands_within : (image : List ℕ) (place size : ℕ) (plain : PlainRecord) → length image ≡ 4096 * size → StandsAt image place plain → place + blocks_of plain.pieces ≤ size
stands_within image place size plain whole stands =
    omega (arith, blocks_of-some plain.pieces, length-spelling plain stands.plain_record, length-append (spelling plain) stands.behind, length-drop (4096 * place) image, ap length stands.spelled)

-- no record stands behind the last block
pub none_behind : (image : List ℕ) (place size : ℕ) → length image ≡ 4096 * size → size ≤ place → NoneStandsAt image place
none_behind image place size whole past plain stands =
    omega (arith, blocks_of-some plain.pieces, stands_within image place size plain whole stands)

-- the first block of a record tells how many there are
pub first_block : (image : List ℕ) (place : ℕ) (plain : PlainRecord) → StandsAt image place plain → slice_range (slice_range image (4096 * place) (4096 * (place + 1))) 16 (16 + 4) ≡ big_endian 4 (blocks_of plain.pieces)
first_block image place plain stands =
    let here = drop (4096 * place) image in
    let size : 4096 * (place + 1) - 4096 * place ≡ 4096 = omega arith in
    ap (λ (n : ℕ). take 4 (drop 16 (take n here))) size ∙ front_part here (take 4096 here) 16 4 4096 (omega arith) (take-take 4096 4096 here (omega arith)) ∙ ap (λ (b : List ℕ). take 4 (drop 16 b)) stands.spelled ∙ count_field plain stands.behind stands.plain_record

-- blocks, as many as the record that stands there takes
pub holds_record : (image : List ℕ) (place count : ℕ) (bytes : List ℕ) → bytes ≡ slice_range image (4096 * place) (4096 * (place + count)) → ((plain : PlainRecord) → StandsAt image place plain → count ≡ blocks_of plain.pieces) → HoldsRecord image place bytes
holds_record image place count bytes is counted =
    let here = drop (4096 * place) image in
    let size : 4096 * (place + count) - 4096 * place ≡ 4096 * count = omega arith in
    let front : bytes ≡ take (4096 * count) here = is ∙ ap (λ (n : ℕ). take n here) size in
    record {
      behind = drop (4096 * count) here;
      cut = sym (take-append-drop (4096 * count) here) ∙ ap (λ (b : List ℕ). b ++ drop (4096 * count) here) (sym front);
      whole = λ plain stands. record {
        plain_record = stands.plain_record;
        behind = [];
        spelled = front ∙ ap (λ (b : List ℕ). take (4096 * count) b) stands.spelled ∙ take_at (spelling plain) stands.behind (4096 * count) (length-spelling plain stands.plain_record ∙ ap (λ (n : ℕ). 4096 * n) (sym (counted plain stands))) ∙ sym (append-nil (spelling plain));
      };
    }

-- a record that the blocks begin with stands there
pub stands_there : (image : List ℕ) (place : ℕ) (bytes : List ℕ) (plain : PlainRecord) → HoldsRecord image place bytes → BeginsWith bytes plain → StandsAt image place plain
stands_there image place bytes plain holds begins =
    record {
      plain_record = begins.plain_record;
      behind = begins.behind ++ holds.behind;
      spelled = holds.cut ∙ ap (λ (b : List ℕ). b ++ holds.behind) begins.spelled ∙ append_assoc (spelling plain) begins.behind holds.behind;
    }

-- where another record stands than the one that would go on, none goes on
pub none_else : (image : List ℕ) (place commit : ℕ) (previous : List ℕ) (plain : PlainRecord) → StandsAt image place plain → ((plain.commit.0 ≡ commit) → (plain.previous.0 ≡ previous) → ⊥) → NoneContinues image place commit previous
none_else image place commit previous plain stands differs other continues =
    let same : other ≡ plain = same_begun (drop (4096 * place) image) other plain continues.stands stands in
    differs (ap (λ (r : PlainRecord). r.commit.0) (sym same) ∙ continues.numbered) (ap (λ (r : PlainRecord). r.previous.0) (sym same) ∙ continues.linked)
