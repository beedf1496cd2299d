-- The parts of an operation, taken one by one.
use Rattle.std.proofs.Common.{◌≡◌, inl, inr, ℕ, zero, suc, ◌+◌, ◌-◌, ◌%◌, ◌≤◌, ◌<◌, List, [], ◌∷◌, ◌++◌, length, drop, get_or, Some, Err, refl, sym, ap, subst, ◌∙◌, arith, length-append}
use Rattle.std.specs.Prelude.{map, replicate, slice_get, ◌==◌, if◌then◌else◌}
use Rattle.std.specs.Borrow.{Bor}
use Rattle.std.specs.List.{flat_map, AllByRecursion}
use Rattle.std.proofs.Math.ListN.{drop_of_length-le}
use Rattle.std.proofs.lemmas.List.{append-nil, length-map, length-replicate}
use Rattle.sea_script.specs.declared.argument.Argument.{Argument}
use Rattle.sea_script.specs.declared.argument.Argument.TheVariants.{Name, Bytes}
use Rattle.sea_script.specs.declared.fault.LineFault.{LineFault}
use Rattle.sea_script.specs.declared.fault.LineFault.TheVariants.{NoMemory, Why}
use Rattle.sea_script.specs.declared.table.Further.{Further}
use Rattle.sea_script.specs.declared.table.Further.TheVariants.{Nothing, Name as OneName, Names, Pairs}
use Rattle.sea_script.specs.declared.table.Kind.{Kind}
use Rattle.sea_script.specs.declared.table.Kind.TheVariants.{Name as NameKind, Bytes as BytesKind}
use Rattle.sea_script.specs.declared.table.Verb.{Verb}
use Rattle.sea_script.specs.Argument.{IsArgument, IsFirstBad, IsOfKind, argument_text, bad, kinds, pair_arguments}
use Rattle.sea_script.specs.Reading.{AreRead, Finds, ReadsArguments, Says, seen}
use Rattle.sea_script.specs.Table.{IsCount, MayFollow, alternate, first_kinds, further_kind, further_kinds, further_of, kinds_for}

-- ---- names

pub first_name : (left : List Argument) → (left ≡ [] → ⊥) → kinds left ≡ replicate (length left) NameKind → slice_get (kinds left) 0 ≡ Some NameKind
first_name [] some are = absurd (some refl)
first_name (a ∷ left) some are = cc

pub next_names : (left rest : List Argument) (a : Argument) → left ≡ a ∷ rest → kinds left ≡ replicate (length left) NameKind → kinds rest ≡ replicate (length rest) NameKind
next_names [] rest a is are = cc
next_names (b ∷ left) rest a is are =
    let same : left ≡ rest = cc in
    let own : kinds left ≡ replicate (length left) NameKind = cc in
    rw (← same) own

name_more : (names : List (List ℕ)) (n : List ℕ) (rest : List Argument) → map Name names ++ Name n ∷ rest ≡ map Name (names ++ n ∷ []) ++ rest
name_more [] n rest = refl
name_more (m ∷ names) n rest = ap (λ xs. Name m ∷ xs) (name_more names n rest)

pub read_name : (all left rest : List Argument) (names : List (List ℕ)) (n : List ℕ) → all ≡ map Name names ++ left → left ≡ Name n ∷ rest → all ≡ map Name (names ++ n ∷ []) ++ rest
read_name all left rest names n so_far next = so_far ∙ ap (λ xs. map Name names ++ xs) next ∙ name_more names n rest

-- ---- pairs

pub first_key : (left : List Argument) → (left ≡ [] → ⊥) → length left % 2 ≡ 0 → kinds left ≡ alternate (length left) → slice_get (kinds left) 0 ≡ Some NameKind
first_key [] some even are = absurd (some refl)
first_key (a ∷ []) some even are = absurd (omega arith)
first_key (a ∷ b ∷ left) some even are = cc

pub then_value : (left rest : List Argument) (a : Argument) → left ≡ a ∷ rest → length left % 2 ≡ 0 → kinds left ≡ alternate (length left) → slice_get (kinds rest) 0 ≡ Some BytesKind
then_value [] rest a is even are = cc
then_value (x ∷ []) rest a is even are = absurd (omega arith)
then_value (x ∷ y ∷ left) rest a is even are =
    let same : y ∷ left ≡ rest = cc in
    let own : slice_get (kinds (y ∷ left)) 0 ≡ Some BytesKind = cc in
    rw (← same) own

pub next_pairs : (left behind rest : List Argument) (a b : Argument) → left ≡ a ∷ behind → behind ≡ b ∷ rest → length left % 2 ≡ 0 → kinds left ≡ alternate (length left) → (length rest % 2 ≡ 0) × (kinds rest ≡ alternate (length rest))
next_pairs [] behind rest a b is next even are = cc
next_pairs (x ∷ []) behind rest a b is next even are = absurd (omega arith)
next_pairs (x ∷ y ∷ left) behind rest a b is next even are =
    let same : left ≡ rest = cc in
    let own : kinds left ≡ alternate (length left) = cc in
    let half : length left % 2 ≡ 0 = omega arith in
    rw (← same) (half, own)

pair_more : (pairs : List (List ℕ × List ℕ)) (k v : List ℕ) (rest : List Argument) → flat_map pair_arguments pairs ++ Name k ∷ Bytes v ∷ rest ≡ flat_map pair_arguments (pairs ++ (k, v) ∷ []) ++ rest
pair_more [] k v rest = refl
pair_more (p ∷ pairs) k v rest = ap (λ xs. Name p.0 ∷ Bytes p.1 ∷ xs) (pair_more pairs k v rest)

pub read_pair : (all left behind rest : List Argument) (pairs : List (List ℕ × List ℕ)) (k v : List ℕ) → all ≡ flat_map pair_arguments pairs ++ left → left ≡ Name k ∷ behind → behind ≡ Bytes v ∷ rest → all ≡ flat_map pair_arguments (pairs ++ (k, v) ∷ []) ++ rest
read_pair all left behind rest pairs k v so_far first second =
    so_far ∙ ap (λ xs. flat_map pair_arguments pairs ++ xs) (first ∙ ap (λ xs. Name k ∷ xs) second) ∙ pair_more pairs k v rest

-- ---- the kinds of words

get_copy : (n i : ℕ) (kind : Kind) → i < n → slice_get (replicate n kind) i ≡ Some kind
get_copy zero i kind within = absurd (omega arith)
get_copy (suc n) zero kind within = refl
get_copy (suc n) (suc i) kind within = get_copy n i kind (omega arith)

get_alternate : (n i : ℕ) → i < n → slice_get (alternate n) i ≡ Some (further_kind Pairs i)
get_alternate zero i within = absurd (omega arith)
get_alternate (suc zero) zero within = refl
get_alternate (suc zero) (suc i) within = absurd (omega arith)
get_alternate (suc (suc n)) zero within = refl
get_alternate (suc (suc n)) (suc zero) within = refl
get_alternate (suc (suc n)) (suc (suc i)) within =
    let same : suc (suc i) % 2 ≡ i % 2 = omega arith in
    get_alternate n i (omega arith) ∙ ap (λ r. Some (if r == 1 then BytesKind else NameKind)) (sym same)

get_further : (further : Further) (n i : ℕ) → MayFollow further n → i < n → slice_get (further_kinds further n) i ≡ Some (further_kind further i)
get_further Nothing n i may within = absurd (omega arith)
get_further OneName n i may within = get_copy n i NameKind within
get_further Names n i may within = get_copy n i NameKind within
get_further Pairs n i may within = get_alternate n i within

get_behind : (xs ys : List Kind) (i j : ℕ) → i ≡ length xs + j → slice_get (xs ++ ys) i ≡ slice_get ys j
get_behind [] ys i j is = let same : i ≡ j = omega arith in ap (slice_get ys) same
get_behind (x ∷ xs) ys zero j is = absurd (omega arith)
get_behind (x ∷ xs) ys (suc i) j is = get_behind xs ys i j (omega arith)

pub further_at : (first : List Kind) (further : Further) (index count : ℕ) (kind : Kind) → length first ≤ index → MayFollow further count → index < length first + count → kind ≡ further_kind further (index - length first) → slice_get (first ++ further_kinds further count) index ≡ Some kind
further_at first further index count kind behind may within is =
    get_behind first (further_kinds further count) index (index - length first) (omega arith) ∙ get_further further count (index - length first) may (omega arith) ∙ ap Some (sym is)

alternate_length : (n : ℕ) → length (alternate n) ≡ n
alternate_length zero = refl
alternate_length (suc zero) = refl
alternate_length (suc (suc n)) = ap (λ k. suc (suc k)) (alternate_length n)

further_length : (further : Further) (n : ℕ) → MayFollow further n → length (further_kinds further n) ≡ n
further_length Nothing n may = sym may
further_length OneName n may = length-replicate n NameKind
further_length Names n may = length-replicate n NameKind
further_length Pairs n may = alternate_length n

pub kinds_length : (called : Verb) (n : ℕ) → IsCount called n → length (kinds_for called n) ≡ n
kinds_length called n counted =
    let behind = further_length (further_of called) (n - length (first_kinds called)) counted.1 in
    omega (arith, length-append (first_kinds called) (further_kinds (further_of called) (n - length (first_kinds called))), behind, counted.0)

pub seen_length : (words : List (Bor (List ℕ))) → length (seen words) ≡ length words
seen_length words = length-map words (λ w. w.now)

-- what the table says of a row is what it says of its operation
pub count_is : (first : List Kind) (further : Further) (called : Verb) (words : List (Bor (List ℕ))) → first ≡ first_kinds called → further ≡ further_of called → length first ≤ length words → MayFollow further (length words - length first) → IsCount called (length (seen words))
count_is first further called words same_first same_further few may =
    subst (λ fs. (length fs ≤ length (seen words)) × MayFollow (further_of called) (length (seen words) - length fs)) same_first
    (subst (λ fu. (length first ≤ length (seen words)) × MayFollow fu (length (seen words) - length first)) same_further
    (subst (λ m. (length first ≤ m) × MayFollow further (m - length first)) (sym (seen_length words)) (few, may)))

pub no_count : (first : List Kind) (further : Further) (called : Verb) (words : List (Bor (List ℕ))) → first ≡ first_kinds called → further ≡ further_of called → IsCount called (length (seen words)) → (length first ≤ length words) × MayFollow further (length words - length first)
no_count first further called words same_first same_further counted =
    subst (λ m. (length first ≤ m) × MayFollow further (m - length first)) (seen_length words)
    (subst (λ fu. (length first ≤ length (seen words)) × MayFollow fu (length (seen words) - length first)) (sym same_further)
    (subst (λ fs. (length fs ≤ length (seen words)) × MayFollow (further_of called) (length (seen words) - length fs)) (sym same_first) counted))

pub kind_is : (first : List Kind) (further : Further) (called : Verb) (words : List (Bor (List ℕ))) (index : ℕ) (kind : Kind) → first ≡ first_kinds called → further ≡ further_of called → slice_get (first ++ further_kinds further (length words - length first)) index ≡ Some kind → slice_get (kinds_for called (length (seen words))) index ≡ Some kind
kind_is first further called words index kind same_first same_further is =
    subst (λ fs. slice_get (fs ++ further_kinds (further_of called) (length (seen words) - length fs)) index ≡ Some kind) same_first
    (subst (λ fu. slice_get (first ++ further_kinds fu (length (seen words) - length first)) index ≡ Some kind) same_further
    (subst (λ m. slice_get (first ++ further_kinds further (m - length first)) index ≡ Some kind) (sym (seen_length words)) is))

-- ---- words read one by one

-- the words from an index on
pub seen_at : (words : List (Bor (List ℕ))) (i : ℕ) (d : Bor (List ℕ)) → i < length words → drop i (seen words) ≡ (get_or words i d).now ∷ drop (suc i) (seen words)
seen_at [] i d within = absurd (omega arith)
seen_at (w ∷ words) zero d within = refl
seen_at (w ∷ words) (suc i) d within = seen_at words i d (omega arith)

pub kinds_at : (ks : List Kind) (i : ℕ) (kind : Kind) → slice_get ks i ≡ Some kind → drop i ks ≡ kind ∷ drop (suc i) ks
kinds_at [] i kind is = cc
kinds_at (k ∷ ks) zero kind is = let same : k ≡ kind = cc in ap (λ x. x ∷ ks) same
kinds_at (k ∷ ks) (suc i) kind is = kinds_at ks i kind is

bad_at : (read : List Argument) (kind : Kind) (ks : List Kind) (word : List ℕ) (others : List (List ℕ)) → AllByRecursion IsArgument read → (IsOfKind kind word → ⊥) → IsFirstBad (kinds read ++ kind ∷ ks) (map argument_text read ++ word ∷ others) (bad kind)
bad_at [] kind ks word others good isnt = inl (isnt, refl)
bad_at (a ∷ read) kind ks word others good isnt =
    inr ((a, good.0, refl, refl), bad_at read kind ks word others good.1 isnt)

-- a word that isn't of its kind, behind words that are
pub read_fails : (called : Verb) (words : List (List ℕ)) (read : List Argument) (kind : Kind) (ks : List Kind) (word : List ℕ) (others : List (List ℕ)) (fault : LineFault) → IsCount called (length words) → AllByRecursion IsArgument read → kinds_for called (length words) ≡ kinds read ++ kind ∷ ks → words ≡ map argument_text read ++ word ∷ others → Finds (Says kind word) (bad kind) (Err fault) → ReadsArguments called words (Err fault)
read_fails called words read kind ks word others NoMemory counted good kinds_are words_are finds = tt
read_fails called words read kind ks word others (Why why) counted good kinds_are words_are finds =
    let isnt : IsOfKind kind word → ⊥ = λ is. finds.0 is.0 (is.1, is.2, is.3) in
    let first : IsFirstBad (kinds read ++ kind ∷ ks) (map argument_text read ++ word ∷ others) (bad kind) = bad_at read kind ks word others good isnt in
    inr (
      counted,
      subst (λ k. IsFirstBad k words why) (sym kinds_are) (subst (λ w. IsFirstBad (kinds read ++ kind ∷ ks) w why) (sym words_are) (subst (IsFirstBad (kinds read ++ kind ∷ ks) (map argument_text read ++ word ∷ others)) (sym finds.1) first)),
    )

-- one more is read
pub good_more : (read : List Argument) (a : Argument) → AllByRecursion IsArgument read → IsArgument a → AllByRecursion IsArgument (read ++ a ∷ [])
good_more [] a good this = (this, tt)
good_more (b ∷ read) a good this = (good.0, good_more read a good.1 this)

pub mapped_more : {B : Type 0} (f : Argument → B) (read : List Argument) (a : Argument) (b : B) (rest : List B) → f a ≡ b → map f read ++ b ∷ rest ≡ map f (read ++ a ∷ []) ++ rest
mapped_more f [] a b rest is = ap (λ x. x ∷ rest) (sym is)
mapped_more f (c ∷ read) a b rest is = ap (λ xs. f c ∷ xs) (mapped_more f read a b rest is)

-- all are read
pub all_read : (called : Verb) (words : List (List ℕ)) (read : List Argument) (index : ℕ) → IsCount called (length words) → AllByRecursion IsArgument read → index ≡ length words → kinds_for called (length words) ≡ kinds read ++ drop index (kinds_for called (length words)) → words ≡ map argument_text read ++ drop index words → AreRead called words read
all_read called words read index counted good all kinds_are words_are =
    let none_k : drop index (kinds_for called (length words)) ≡ [] = drop_of_length-le (kinds_for called (length words)) (omega (arith, kinds_length called (length words) counted)) in
    let none_w : drop index words ≡ [] = drop_of_length-le words (omega arith) in
    let whole : words ≡ map argument_text read = words_are ∙ ap (λ xs. map argument_text read ++ xs) none_w ∙ append-nil (map argument_text read) in
    let long : length words ≡ length read = ap length whole ∙ length-map read argument_text in
    let same : kinds_for called (length words) ≡ kinds read = kinds_are ∙ ap (λ xs. kinds read ++ xs) none_k ∙ append-nil (kinds read) in
    (subst (IsCount called) long counted, sym same ∙ ap (kinds_for called) long, good, whole)
