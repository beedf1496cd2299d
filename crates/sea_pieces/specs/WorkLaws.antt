-- What holds of each transaction on the objects that pieces make.
use Rattle.std.specs.Prelude.{◌≡◌, ℕ, ◌+◌, ◌*◌, ◌≤◌}
use Rattle.std.specs.Prelude.{List, [], ◌∷◌, ◌++◌, length, sum_by, Option, Some, None, refl}
use Rattle.std.proofs.Common.{sym, ap, subst, ◌∙◌, arith, length-append}
use Rattle.std.proofs.lemmas.List.Sums.{sum_by-cons}
use Rattle.std.specs.List.{AllByRecursion}
use Rattle.std.specs.FinMap as map
use Rattle.sea_object.specs.declared.op.Op.{Op}
use Rattle.sea_object.specs.declared.op.Op.TheVariants.{Touch, Write, Read, Stat}
use Rattle.sea_object.specs.declared.reply.Reply.TheVariants as reply
use Rattle.sea_object.specs.Answer.{after, after_of, answer, effect, first_refused}
use Rattle.sea_object.specs.Answer.{or_later, refusal, refusal_at, reply_of}
use Rattle.sea_object.specs.Objects.{ObjectMap, ObjectValue}
use Rattle.sea_object.specs.Op.{IsWithinLimits, data_blocks}
use Rattle.sea_sets.specs.Board.{HasNoConflict}
use Rattle.sea_pieces.specs.declared.piece.Piece.{Piece}
use Rattle.sea_pieces.specs.declared.workspace.Workspace.{Workspace}
use Rattle.sea_pieces.specs.Laying.{IsServed, after_pieces, op_pieces, pieces_of}
use Rattle.sea_pieces.specs.LayingLaws.{effects_laid}
use Rattle.sea_pieces.specs.Spelling.{IsPiece, piece_bytes, spelling}
use Rattle.sea_pieces.specs.SpellingLaws.{length-piece_bytes, same_body, spelling-append}
use Rattle.sea_pieces.specs.SpellingLaws.{spelling-cons, spelling-nil}
use Rattle.sea_pieces.specs.Store.{objects_of_store}
use Rattle.sea_pieces.specs.Transaction.{Did}
use Rattle.sea_pieces.specs.Works.{HasDone, Lays, work_of}

not_refused : (op : Op) (objects : ObjectMap) → IsServed op → refusal op objects ≡ None
not_refused (Touch name) objects served = free (map.get objects name)
  where
    free : (found : Option ObjectValue) → refusal_at (Touch name) found ≡ None
    free None = refl
    free (Some object) = refl
not_refused (Write name offset bytes) objects served = free (map.get objects name)
  where
    free : (found : Option ObjectValue) → refusal_at (Write name offset bytes) found ≡ None
    free None = refl
    free (Some object) = refl
not_refused (Read name offset count) objects served = free (map.get objects name)
  where
    free : (found : Option ObjectValue) → refusal_at (Read name offset count) found ≡ None
    free None = refl
    free (Some object) = refl
not_refused (Stat name) objects served = free (map.get objects name)
  where
    free : (found : Option ObjectValue) → refusal_at (Stat name) found ≡ None
    free None = refl
    free (Some object) = refl
not_refused _ objects served = absurd served

-- none of the operations that pieces can do is refused
none_refused : (ops : List Op) (number : ℕ) (objects : ObjectMap)
    → AllByRecursion IsServed ops → first_refused ops number objects ≡ None
none_refused [] number objects served = refl
none_refused (op ∷ ops) number objects served =
    ap (λ r. or_later number r (first_refused ops (number + 1) (effect op objects)))
    (not_refused op objects served.0)
    ∙ none_refused ops (number + 1) (effect op objects) served.1

-- they all have their effects
pub after_served : (ops : List Op) (objects : ObjectMap) → AllByRecursion IsServed ops
    → AllByRecursion IsWithinLimits ops → after ops objects ≡ after_pieces (pieces_of ops) objects
after_served ops objects served within =
    ap (λ r. after_of r ops objects) (none_refused ops 1 objects served)
    ∙ effects_laid ops objects served within

one_piece : (p : Piece) → length (spelling (p ∷ [])) ≡ 9 + length p.name + length p.bytes
one_piece p =
    omega (
      arith,
      ap length (spelling-cons p []),
      length-append (piece_bytes p) (spelling []),
      ap length spelling-nil,
      length-piece_bytes p,
    )

-- the piece of an operation has as many blocks as it writes, and one more, at most
op_small : (op : Op) → IsServed op → IsWithinLimits op → AllByRecursion IsPiece (op_pieces op)
    → length (spelling (op_pieces op)) ≤ 4096 * (data_blocks op + 1)
op_small (Touch name) served within fit =
    let p : Piece = record { name = name; offset = 0; bytes = [] } in
    omega (arith, one_piece p, fit.0.0.1)
op_small (Write name offset bytes) served within fit =
    let p : Piece = record { name = name; offset = offset; bytes = bytes } in
    omega (arith, one_piece p, fit.0.0.1, within.0.0)
op_small (Read name offset count) served within fit = omega (arith, ap length spelling-nil)
op_small (Stat name) served within fit = omega (arith, ap length spelling-nil)
op_small _ served within fit = absurd served

parts_fit : (front back : List Piece) → AllByRecursion IsPiece (front ++ back)
    → AllByRecursion IsPiece front × AllByRecursion IsPiece back
parts_fit [] back fit = (tt, fit)
parts_fit (p ∷ front) back fit =
    let rest = parts_fit front back fit.1 in
    ((fit.0, rest.0), rest.1)

all_small : (ops : List Op) → AllByRecursion IsServed ops → AllByRecursion IsWithinLimits ops
    → AllByRecursion IsPiece (pieces_of ops)
    → length (spelling (pieces_of ops)) ≤ 4096 * (sum_by data_blocks ops + length ops)
all_small [] served within fit = omega (arith, ap length spelling-nil)
all_small (op ∷ ops) served within fit =
    let parts = parts_fit (op_pieces op) (pieces_of ops) fit in
    omega (
      arith,
      op_small op served.0 within.0 parts.0,
      all_small ops served.1 within.1 parts.1,
      ap length (spelling-append (op_pieces op) (pieces_of ops)),
      length-append (spelling (op_pieces op)) (spelling (pieces_of ops)),
      sum_by-cons data_blocks op ops,
    )

module _ (space : Workspace) (client : ℕ) (ops : List Op)
    (stands : HasNoConflict space.store.board client) (did : HasDone space client ops) where
  -- a transaction whose reads stand did its operations on the committed objects as they are
  pub did_now : Did ops (work_of space client) (objects_of_store space.store)
  did_now = did stands (objects_of_store space.store) (λ name at is note found. refl)

  pub reply_right : reply.Done (work_of space client).items
      ≡ answer ops (objects_of_store space.store)
  reply_right =
      ap reply.Done did_now.answered
      ∙ sym (ap (λ r. reply_of r ops (objects_of_store space.store))
      (none_refused ops 1 (objects_of_store space.store) did_now.served))

  pub after_laid : after ops (objects_of_store space.store)
      ≡ after_pieces (work_of space client).pieces (objects_of_store space.store)
  after_laid =
      after_served ops (objects_of_store space.store) did_now.served did_now.within
      ∙ ap (λ ps. after_pieces ps (objects_of_store space.store)) (sym did_now.changed)

  pub change_laid : Lays (spelling (work_of space client).pieces) (objects_of_store space.store)
      (after ops (objects_of_store space.store))
  change_laid = ((work_of space client).pieces, (did_now.fit, refl), after_laid)

  pub change_small : length (spelling (work_of space client).pieces)
      ≤ 4096 * (sum_by data_blocks ops + length ops)
  change_small =
      subst (λ ps. length (spelling ps) ≤ 4096 * (sum_by data_blocks ops + length ops))
      (sym did_now.changed)
      (all_small ops did_now.served did_now.within
      (subst (AllByRecursion IsPiece) did_now.changed did_now.fit))

pub one_made : (bytes : List ℕ) (objects first second : ObjectMap) → Lays bytes objects first
    → Lays bytes objects second → first ≡ second
one_made bytes objects first second lays others =
    let same : lays.0 ≡ others.0 =
    same_body lays.0 others.0 lays.1.0 others.1.0 (sym lays.1.1 ∙ others.1.1) in
    lays.2 ∙ ap (λ ps. after_pieces ps objects) same ∙ sym others.2

pub nothing_laid : (objects others : ObjectMap) → Lays [] objects others → others ≡ objects
nothing_laid objects others lays =
    let none : lays.0 ≡ [] = same_body lays.0 [] lays.1.0 tt (sym lays.1.1 ∙ sym spelling-nil) in
    lays.2 ∙ ap (λ ps. after_pieces ps objects) none
