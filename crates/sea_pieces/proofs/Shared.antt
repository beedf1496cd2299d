-- What operations answer on maps of objects that share what is read.
use Rattle.std.proofs.Common.{◌≡◌, ℕ, Bool, true, false, cond, List, [], ◌∷◌, ◌++◌, Option, Some, None, refl, sym, ap, subst, ◌∙◌}
use Rattle.std.specs.Prelude.{unwrap_or}
use Rattle.std.specs.Ordering.{nat_cmp, eq_by_cmp}
use Rattle.std.specs.Cmp.Lexicographic.{slice_cmp, nat_list_cmp_total}
use Rattle.std.specs.List.{AllByRecursion}
use Rattle.std.specs.FinMap.{get, get-insert}
use Rattle.std.proofs.lemmas.Map.Lookups.{exact_bytes}
use Rattle.std.proofs.lemmas.Map.Views.{tells_apart}
use Rattle.sea_object.specs.declared.op.Op.{Op}
use Rattle.sea_object.specs.declared.op.Op.TheVariants.{Touch, Write, Zero, Truncate, Remove, SetAttr, RmAttr, RmAttrs, OmapSetKeys, OmapRmKeys, OmapRmKeyRange, OmapClear, Read, Stat, GetAttr, GetAttrs, OmapGet, OmapList, List as ListNames}
use Rattle.sea_object.specs.declared.reply.Item.{Item}
use Rattle.sea_object.specs.declared.reply.Item.TheVariants.{Unit as Nothing}
use Rattle.sea_object.specs.Answer.{effect, effects, item, item_at, items, with_bytes}
use Rattle.sea_object.specs.Objects.{ObjectMap, ObjectValue, empty_object}
use Rattle.sea_object.specs.Op.{IsWithinLimits}
use Rattle.sea_pieces.specs.declared.piece.Piece.{Piece}
use Rattle.sea_pieces.specs.Laying.{IsServed, SharesRead, after_piece, after_pieces, laid, object_under, op_pieces, pieces_of, read_name}
use Rattle.sea_pieces.specs.Spelling.{IsPiece}
use Rattle.sea_pieces.specs.Transaction.{Did, Done}
use Rattle.sea_pieces.specs.LayingLaws.{effects_laid}
use Rattle.std.proofs.lemmas.List.Concat.{flat_map-append}
use Rattle.std.proofs.lemmas.List.{append-nil}

pub get-after_piece : (piece : Piece) (objects : ObjectMap) (name : List ℕ) → get (after_piece piece objects) name ≡ cond (eq_by_cmp (slice_cmp nat_cmp) name piece.name) (Some (with_bytes (laid piece.offset piece.bytes (object_under objects piece.name).bytes) (object_under objects piece.name))) (get objects name)
get-after_piece piece objects name = get-insert nat_list_cmp_total objects piece.name _ name

-- the object under a name after a piece, by what was there
under : Piece → Option ObjectValue → Option ObjectValue → Bool → Option ObjectValue
under piece found at_piece b =
    cond b (Some (with_bytes (laid piece.offset piece.bytes (unwrap_or at_piece empty_object).bytes) (unwrap_or at_piece empty_object))) found

same_under : (piece : Piece) (b : Bool) (x y p q : Option ObjectValue) → x ≡ y → (b ≡ true → p ≡ q) → under piece x p b ≡ under piece y q b
unfolding under
same_under piece true x y p q e f = ap (λ (o : Option ObjectValue). Some (with_bytes (laid piece.offset piece.bytes (unwrap_or o empty_object).bytes) (unwrap_or o empty_object))) (f refl)
same_under piece false x y p q e f = e

shared_after_piece : (piece : Piece) (o s : ObjectMap) (name : List ℕ) → get o name ≡ get s name → get (after_piece piece o) name ≡ get (after_piece piece s) name
unfolding under
shared_after_piece piece o s name e =
    let b = eq_by_cmp (slice_cmp nat_cmp) name piece.name in
    get-after_piece piece o name
    ∙ same_under piece b (get o name) (get s name) (get o piece.name) (get s piece.name) e (λ is.
    let at : name ≡ piece.name = tells_apart exact_bytes name piece.name is in
    subst (λ (n : List ℕ). get o n ≡ get s n) at e)
    ∙ sym (get-after_piece piece s name)

-- an object that two maps share they share after any pieces
pub shared_after : (pieces : List Piece) (o s : ObjectMap) (name : List ℕ) → get o name ≡ get s name → get (after_pieces pieces o) name ≡ get (after_pieces pieces s) name
shared_after [] o s name e = e
shared_after (piece ∷ pieces) o s name e =
    shared_after pieces (after_piece piece o) (after_piece piece s) name (shared_after_piece piece o s name e)

unread : (op : Op) (name : List ℕ) (found : Option ObjectValue) → IsServed op → read_name op ≡ None → item_at op found ≡ Nothing
unread (Touch n) name None served none = refl
unread (Touch n) name (Some o) served none = refl
unread (Write n offset bytes) name None served none = refl
unread (Write n offset bytes) name (Some o) served none = refl
unread (Read n offset count) name found served none = absurd cc
unread (Stat n) name found served none = absurd cc
unread (Zero n offset count) name found served none = absurd served
unread (Truncate n size) name found served none = absurd served
unread (Remove n) name found served none = absurd served
unread (SetAttr n key value) name found served none = absurd served
unread (RmAttr n key) name found served none = absurd served
unread (RmAttrs n) name found served none = absurd served
unread (OmapSetKeys n pairs) name found served none = absurd served
unread (OmapRmKeys n keys) name found served none = absurd served
unread (OmapRmKeyRange n from to bound) name found served none = absurd served
unread (OmapClear n) name found served none = absurd served
unread (GetAttr n key) name found served none = absurd served
unread (GetAttrs n) name found served none = absurd served
unread (OmapGet n key) name found served none = absurd served
unread (OmapList n limit after) name found served none = absurd served
unread (ListNames limit after) name found served none = absurd served

-- an operation answers the same on maps that share what it reads, whatever the pieces before it
pub same_item : (op : Op) (pieces : List Piece) (o s : ObjectMap) → IsServed op → SharesRead (read_name op) o s → item op (after_pieces pieces o) ≡ item op (after_pieces pieces s)
same_item (Touch name) pieces o s served shares =
    unread (Touch name) name (get (after_pieces pieces o) name) tt refl ∙ sym (unread (Touch name) name (get (after_pieces pieces s) name) tt refl)
same_item (Write name offset bytes) pieces o s served shares =
    unread (Write name offset bytes) name (get (after_pieces pieces o) name) tt refl ∙ sym (unread (Write name offset bytes) name (get (after_pieces pieces s) name) tt refl)
same_item (Read name offset count) pieces o s served shares =
    ap (item_at (Read name offset count)) (shared_after pieces o s name shares)
same_item (Stat name) pieces o s served shares = ap (item_at (Stat name)) (shared_after pieces o s name shares)
same_item (Zero name offset count) pieces o s served shares = absurd served
same_item (Truncate name size) pieces o s served shares = absurd served
same_item (Remove name) pieces o s served shares = absurd served
same_item (SetAttr name key value) pieces o s served shares = absurd served
same_item (RmAttr name key) pieces o s served shares = absurd served
same_item (RmAttrs name) pieces o s served shares = absurd served
same_item (OmapSetKeys name pairs) pieces o s served shares = absurd served
same_item (OmapRmKeys name keys) pieces o s served shares = absurd served
same_item (OmapRmKeyRange name from to bound) pieces o s served shares = absurd served
same_item (OmapClear name) pieces o s served shares = absurd served
same_item (GetAttr name key) pieces o s served shares = absurd served
same_item (GetAttrs name) pieces o s served shares = absurd served
same_item (OmapGet name key) pieces o s served shares = absurd served
same_item (OmapList name limit after) pieces o s served shares = absurd served
same_item (ListNames limit after) pieces o s served shares = absurd served

items-append : (ops : List Op) (op : Op) (objects : ObjectMap) → items (ops ++ op ∷ []) objects ≡ items ops objects ++ item op (effects ops objects) ∷ []
items-append [] op objects = refl
items-append (first ∷ ops) op objects =
    ap (λ (rest : List Item). item first objects ∷ rest) (items-append ops op (effect first objects))

all_more : (P : Op → Type 0) (ops : List Op) (op : Op) → AllByRecursion P ops → P op → AllByRecursion P (ops ++ op ∷ [])
all_more P [] op all p = (p, tt)
all_more P (first ∷ ops) op all p = (all.0, all_more P ops op all.1 p)

-- one operation more
pub did_more : (ops : List Op) (op : Op) (old new : Done) (objects committed : ObjectMap) → Did ops old objects → IsServed op → IsWithinLimits op → SharesRead (read_name op) objects committed
    → new.items ≡ old.items ++ item op (after_pieces old.pieces committed) ∷ [] → new.pieces ≡ old.pieces ++ op_pieces op → AllByRecursion IsPiece new.pieces → Did (ops ++ op ∷ []) new objects
did_more ops op old new objects committed did served within shares more pieces fit =
    record {
      served = all_more IsServed ops op did.served served;
      within = all_more IsWithinLimits ops op did.within within;
      answered = more
          ∙ ap (λ (x : List Item). x ++ item op (after_pieces old.pieces committed) ∷ []) did.answered
          ∙ ap (λ (i : Item). items ops objects ++ i ∷ []) (sym (same_item op old.pieces objects committed served shares)
          ∙ ap (λ (ps : List Piece). item op (after_pieces ps objects)) did.changed
          ∙ ap (item op) (sym (effects_laid ops objects did.served did.within)))
          ∙ sym (items-append ops op objects);
      changed = pieces
          ∙ ap (λ (ps : List Piece). ps ++ op_pieces op) did.changed
          ∙ ap (λ (ps : List Piece). pieces_of ops ++ ps) (sym (append-nil (op_pieces op)))
          ∙ sym (flat_map-append op_pieces ops (op ∷ []));
      fit = fit;
    }

-- what the pieces of a transaction make of the objects
pub did_laid : (ops : List Op) (done : Done) (objects : ObjectMap) → Did ops done objects → after_pieces done.pieces objects ≡ effects ops objects
did_laid ops done objects did =
    ap (λ (ps : List Piece). after_pieces ps objects) did.changed ∙ sym (effects_laid ops objects did.served did.within)
