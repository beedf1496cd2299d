-- Lists of entries: what is read makes their bytes, and their bytes tell them.
use Rattle.std.proofs.Common.{◌≡◌, ℕ, ◌+◌, ◌^◌, ◌<◌, ◌≤◌, List, [], ◌∷◌, ◌++◌, length, get_or, take, drop, refl, sym, ap, subst, ◌∙◌, arith, append_assoc, length-append, take-append-drop}
use Rattle.std.specs.List.{All, flat_map}
use Rattle.std.proofs.lemmas.List.{take_all, take_more, append-nil}
use Rattle.std.proofs.lemmas.List.Concat.{flat_map-append}
use Rattle.std.proofs.lemmas.List.Elements.{All-head, All-nil, All-push, All-tail}
use Rattle.sea_base.specs.Field.{big_endian}
use Rattle.sea_base.proofs.Fields.{length-big_endian, same_field}
use Rattle.sea_record.specs.Entries.{counted}
use Rattle.sea_record.specs.Parts.{Begins, BeginsWithNo, BeginsWithList}

-- the bytes of an entry tell it
abbrev pub Told : {A : Type 0} → (A → Type 0) → (A → List ℕ) → Type 0
Told {A} fits spelled = (x y : A) (rs ss : List ℕ) → fits x → fits y → spelled x ++ rs ≡ spelled y ++ ss → (x ≡ y) × (rs ≡ ss)

-- so do the bytes of as many entries
pub same_items : {A : Type 0} (fits : A → Type 0) (spelled : A → List ℕ) → Told fits spelled → (xs ys : List A) (rs ss : List ℕ) → length xs ≡ length ys → All fits xs → All fits ys → flat_map spelled xs ++ rs ≡ flat_map spelled ys ++ ss → (xs ≡ ys) × (rs ≡ ss)
same_items fits spelled told [] [] rs ss len fx fy e = (refl, e)
same_items fits spelled told [] (y ∷ ys) rs ss len fx fy e = absurd (omega arith)
same_items fits spelled told (x ∷ xs) [] rs ss len fx fy e = absurd (omega arith)
same_items {A} fits spelled told (x ∷ xs) (y ∷ ys) rs ss len fx fy e =
    let first = told x y (flat_map spelled xs ++ rs) (flat_map spelled ys ++ ss) (All-head fits x xs fx) (All-head fits y ys fy)
    (sym (append_assoc (spelled x) (flat_map spelled xs) rs) ∙ e ∙ append_assoc (spelled y) (flat_map spelled ys) ss) in
    let rest = same_items fits spelled told xs ys rs ss (omega arith) (All-tail fits x xs fx) (All-tail fits y ys fy) first.1 in
    (ap (λ (z : A). z ∷ xs) first.0 ∙ ap (λ (zs : List A). y ∷ zs) rest.0, rest.1)

-- where fewer were read, an entry stands next
pub one_more : {A : Type 0} (fits : A → Type 0) (spelled : A → List ℕ) → Told fits spelled → (xs ys : List A) (rs ss : List ℕ) → length xs < length ys → All fits xs → All fits ys → flat_map spelled xs ++ rs ≡ flat_map spelled ys ++ ss → BeginsWithNo fits spelled rs → ⊥
one_more fits spelled told [] [] rs ss less fx fy e none = absurd (omega arith)
one_more fits spelled told [] (y ∷ ys) rs ss less fx fy e none = none y (flat_map spelled ys ++ ss) (All-head fits y ys fy) (e ∙ append_assoc (spelled y) (flat_map spelled ys) ss)
one_more fits spelled told (x ∷ xs) [] rs ss less fx fy e none = absurd (omega arith)
one_more fits spelled told (x ∷ xs) (y ∷ ys) rs ss less fx fy e none =
    let first = told x y (flat_map spelled xs ++ rs) (flat_map spelled ys ++ ss) (All-head fits x xs fx) (All-head fits y ys fy)
    (sym (append_assoc (spelled x) (flat_map spelled xs) rs) ∙ e ∙ append_assoc (spelled y) (flat_map spelled ys) ss) in
    one_more fits spelled told xs ys rs ss (omega arith) (All-tail fits x xs fx) (All-tail fits y ys fy) first.1 none

-- a list's bytes begin with the number of its entries
pub list_parts : {A : Type 0} (spelled : A → List ℕ) (items : List A) (rest : List ℕ) → counted spelled items ++ rest ≡ big_endian 4 (length items) ++ (flat_map spelled items ++ rest)
list_parts spelled items rest = append_assoc (big_endian 4 (length items)) (flat_map spelled items) rest

pub length-counted : {A : Type 0} (spelled : A → List ℕ) (items : List A) → length (counted spelled items) ≡ 4 + length (flat_map spelled items)
length-counted spelled items =
    omega (arith, length-append (big_endian 4 (length items)) (flat_map spelled items), length-big_endian 4 (length items))

pub same_list : {A : Type 0} (fits : A → Type 0) (spelled : A → List ℕ) → Told fits spelled → (xs ys : List A) (rs ss : List ℕ) → length xs < 2 ^ 32 → length ys < 2 ^ 32 → All fits xs → All fits ys → counted spelled xs ++ rs ≡ counted spelled ys ++ ss → (xs ≡ ys) × (rs ≡ ss)
same_list fits spelled told xs ys rs ss lx ly fx fy e =
    let f = same_field 4 (length xs) (length ys) _ _ (omega arith) (omega arith) (sym (list_parts spelled xs rs) ∙ e ∙ list_parts spelled ys ss) in
    same_items fits spelled told xs ys rs ss f.0 fx fy f.1

-- ---- while a list is read

-- so many entries were read
pub record Read {A : Type 0} (fits : A → Type 0) (spelled : A → List ℕ) (bytes : List ℕ) (index : ℕ) (items : List A) (rest : List ℕ) : Type 0 where
  pub count : length items ≡ index
  pub all : All fits items
  pub is : drop 4 bytes ≡ flat_map spelled items ++ rest

more_read : {A : Type 0} (fits : A → Type 0) (spelled : A → List ℕ) (bytes rest behind : List ℕ) (index : ℕ) (items : List A) (x : A) → Read fits spelled bytes index items rest → All fits (items ++ x ∷ []) → rest ≡ spelled x ++ behind → Read fits spelled bytes (index + 1) (items ++ x ∷ []) behind
more_read {A} fits spelled bytes rest behind index items x read all e = record {
  count = omega (arith, read.count, length-append items (x ∷ []));
  all = all;
  is = read.is ∙ ap (λ (r : List ℕ). flat_map spelled items ++ r) e ∙ sym (append_assoc (flat_map spelled items) (spelled x) behind) ∙ ap (λ (b : List ℕ). b ++ behind) more;
}
  where
    more : flat_map spelled items ++ spelled x ≡ flat_map spelled (items ++ x ∷ [])
    more = ap (λ (b : List ℕ). flat_map spelled items ++ b) (sym (append-nil (spelled x))) ∙ sym (flat_map-append spelled items (x ∷ []))

pub read_more : {A : Type 0} (fits : A → Type 0) (spelled : A → List ℕ) (bytes rest behind : List ℕ) (index : ℕ) (items later : List A) (x : A) → later ≡ items ++ x ∷ [] → Read fits spelled bytes index items rest → Begins fits spelled rest x behind → Read fits spelled bytes (index + 1) later behind
read_more {A} fits spelled bytes rest behind index items later x e read found =
    subst (λ (xs : List A). Read fits spelled bytes (index + 1) xs behind) (sym e) (more_read fits spelled bytes rest behind index items x read (All-push fits items x read.all found.0) found.1)

pub read_nothing : {A : Type 0} (fits : A → Type 0) (spelled : A → List ℕ) (bytes rest : List ℕ) (items : List A) → items ≡ [] → rest ≡ drop 4 bytes → Read fits spelled bytes 0 items rest
read_nothing {A} fits spelled bytes rest items none e =
    subst (λ (xs : List A). Read fits spelled bytes 0 xs rest) (sym none) (record { count = refl; all = All-nil fits; is = sym e })

-- the whole list was read
pub read_whole : {A : Type 0} (fits : A → Type 0) (spelled : A → List ℕ) (bytes rest : List ℕ) (count index : ℕ) (items : List A) → Read fits spelled bytes index items rest → count ≡ index → count < 2 ^ 32 → take 4 bytes ≡ big_endian 4 count → BeginsWithList fits spelled bytes items rest
read_whole fits spelled bytes rest count index items read e few field = record {
  few = omega (arith, read.count);
  all = read.all;
  is = sym (take-append-drop 4 bytes) ∙ ap (λ (b : List ℕ). b ++ drop 4 bytes) (field ∙ ap (big_endian 4) (omega (arith, read.count))) ∙ ap (λ (b : List ℕ). big_endian 4 (length items) ++ b) read.is ∙ sym (list_parts spelled items rest);
}

-- an entry is wanting, so no list stands there
pub read_none : {A : Type 0} (fits : A → Type 0) (spelled : A → List ℕ) → Told fits spelled → (bytes rest : List ℕ) (count index : ℕ) (items : List A) → Read fits spelled bytes index items rest → index < count → count < 2 ^ 32 → take 4 bytes ≡ big_endian 4 count → BeginsWithNo fits spelled rest → (xs : List A) (behind : List ℕ) → BeginsWithList fits spelled bytes xs behind → ⊥
read_none fits spelled told bytes rest count index items read less few field none xs behind found =
    let whole : big_endian 4 count ++ (flat_map spelled items ++ rest) ≡ big_endian 4 (length xs) ++ (flat_map spelled xs ++ behind) =
    ap (λ (b : List ℕ). big_endian 4 count ++ b) (sym read.is) ∙ ap (λ (b : List ℕ). b ++ drop 4 bytes) (sym field) ∙ take-append-drop 4 bytes ∙ found.is ∙ list_parts spelled xs behind in
    let f = same_field 4 count (length xs) _ _ (omega arith) (omega (arith, found.few)) whole in
    one_more fits spelled told items xs rest behind (omega (arith, read.count, f.0)) read.all found.all f.1 none

-- ---- while a list is appended

pub pushed_more : {A : Type 0} (spelled : A → List ℕ) (before count bytes later : List ℕ) (items : List A) (i : ℕ) (x : A) → i < length items → x ≡ get_or items i x → bytes ≡ before ++ (count ++ flat_map spelled (take i items)) → later ≡ bytes ++ spelled x → later ≡ before ++ (count ++ flat_map spelled (take (i + 1) items))
pushed_more {A} spelled before count bytes later items i x within is so_far e =
    let more : flat_map spelled (take (i + 1) items) ≡ flat_map spelled (take i items) ++ spelled x =
    ap (flat_map spelled) (take_more items i x within ∙ ap (λ (y : A). take i items ++ y ∷ []) (sym is)) ∙ flat_map-append spelled (take i items) (x ∷ []) ∙ ap (λ (b : List ℕ). flat_map spelled (take i items) ++ b) (append-nil (spelled x)) in
    e ∙ ap (λ (b : List ℕ). b ++ spelled x) so_far ∙ append_assoc before (count ++ flat_map spelled (take i items)) (spelled x) ∙ ap (λ (b : List ℕ). before ++ b) (append_assoc count (flat_map spelled (take i items)) (spelled x))
    ∙ ap (λ (b : List ℕ). before ++ (count ++ b)) (sym more)

pub pushed_none : {A : Type 0} (spelled : A → List ℕ) (before count bytes : List ℕ) → bytes ≡ before ++ count → bytes ≡ before ++ (count ++ [])
pushed_none spelled before count bytes e = e ∙ ap (λ (b : List ℕ). before ++ b) (sym (append-nil count))

pub pushed_all : {A : Type 0} (spelled : A → List ℕ) (before count bytes : List ℕ) (items : List A) (i : ℕ) → length items ≤ i → bytes ≡ before ++ (count ++ flat_map spelled (take i items)) → bytes ≡ before ++ (count ++ flat_map spelled items)
pushed_all {A} spelled before count bytes items i all e = e ∙ ap (λ (xs : List A). before ++ (count ++ flat_map spelled xs)) (take_all i items all)
