-- Rows of the table, gone through one by one.
use Rattle.std.proofs.Common.{◌≡◌, true, false, ℕ, zero, suc, ◌<◌, ◌≤◌, List, [], ◌∷◌, length, take, get_or, sym, ◌∙◌, arith}
use Rattle.std.specs.Prelude.{map}
use Rattle.std.specs.List.{AllByRecursion}
use Rattle.std.specs.Str.{bytes_eq}
use Rattle.std.proofs.lemmas.Bool.{false≢true}
use Rattle.std.proofs.lemmas.Slice.Eq.{bytes_eq-Decides}
use Rattle.std.specs.Borrow.{Bor}
use Rattle.sea_script.specs.declared.table.Further.{Further}
use Rattle.sea_script.specs.declared.table.Further.TheVariants.{Nothing}
use Rattle.sea_script.specs.declared.table.Kind.{Kind}
use Rattle.sea_script.specs.declared.table.Verb.{Verb}
use Rattle.sea_script.specs.declared.table.Verb.TheVariants.{Touch, Write, Zero, Truncate, Remove, SetAttr, RmAttr, RmAttrs, OmapSetKeys, OmapRmKeys, OmapRmKeyRange, OmapClear, Read, Stat, GetAttr, GetAttrs, OmapGet, OmapList, List as ListNames}
use Rattle.sea_script.specs.declared.table.TheConstants.{TABLE}
use Rattle.sea_script.specs.Table.{word_of}

-- the words of the table
abbrev pub table_words : List (List ℕ)
table_words = map (λ row. row.0.now) TABLE

-- what stands past the end of a table
abbrev pub no_row : Bor (List ℕ) × Verb × Bor (List Kind) × Further
no_row = (record { ref_ptr = (0, 0); now = [] }, Touch, record { ref_ptr = (0, 0); now = [] }, Nothing)

pub all_at : {X : Type 0} (P : X → Type 0) (xs : List X) (i : ℕ) (d : X) → AllByRecursion P xs → i < length xs → P (get_or xs i d)
all_at P [] i d all within = absurd (omega arith)
all_at P (x ∷ xs) zero d all within = all.0
all_at P (x ∷ xs) (suc i) d all within = all_at P xs i d all.1 (omega arith)

pub all_more : {X : Type 0} (P : X → Type 0) (xs : List X) (i : ℕ) (d : X) → i < length xs → AllByRecursion P (take i xs) → P (get_or xs i d) → AllByRecursion P (take (suc i) xs)
all_more P [] i d within all this = absurd (omega arith)
all_more P (x ∷ xs) zero d within all this = (this, tt)
all_more P (x ∷ xs) (suc i) d within all this = (all.0, all_more P xs i d (omega arith) all.1 this)

pub all_taken : {X : Type 0} (P : X → Type 0) (xs : List X) (i : ℕ) → length xs ≤ i → AllByRecursion P (take i xs) → AllByRecursion P xs
all_taken P [] i long all = tt
all_taken P (x ∷ xs) zero long all = absurd (omega arith)
all_taken P (x ∷ xs) (suc i) long all = (all.0, all_taken P xs i (omega arith) all.1)

pub all_mapped : {X Y : Type 0} (f : X → Y) (P : Y → Type 0) (xs : List X) → AllByRecursion (λ x. P (f x)) xs → AllByRecursion P (map f xs)
all_mapped f P [] all = tt
all_mapped f P (x ∷ xs) all = (all.0, all_mapped f P xs all.1)

-- what holds of all words of the table holds of each operation's
pub of_verb : (P : List ℕ → Type 0) → AllByRecursion P table_words → (called : Verb) → P (word_of called)
of_verb P all Touch = all.0
of_verb P all Write = all.1.0
of_verb P all Zero = all.1.1.0
of_verb P all Truncate = all.1.1.1.0
of_verb P all Remove = all.1.1.1.1.0
of_verb P all SetAttr = all.1.1.1.1.1.0
of_verb P all RmAttr = all.1.1.1.1.1.1.0
of_verb P all RmAttrs = all.1.1.1.1.1.1.1.0
of_verb P all OmapSetKeys = all.1.1.1.1.1.1.1.1.0
of_verb P all OmapRmKeys = all.1.1.1.1.1.1.1.1.1.0
of_verb P all OmapRmKeyRange = all.1.1.1.1.1.1.1.1.1.1.0
of_verb P all OmapClear = all.1.1.1.1.1.1.1.1.1.1.1.0
of_verb P all Read = all.1.1.1.1.1.1.1.1.1.1.1.1.0
of_verb P all Stat = all.1.1.1.1.1.1.1.1.1.1.1.1.1.0
of_verb P all GetAttr = all.1.1.1.1.1.1.1.1.1.1.1.1.1.1.0
of_verb P all GetAttrs = all.1.1.1.1.1.1.1.1.1.1.1.1.1.1.1.0
of_verb P all OmapGet = all.1.1.1.1.1.1.1.1.1.1.1.1.1.1.1.1.0
of_verb P all OmapList = all.1.1.1.1.1.1.1.1.1.1.1.1.1.1.1.1.1.0
of_verb P all ListNames = all.1.1.1.1.1.1.1.1.1.1.1.1.1.1.1.1.1.1.0

-- bytes that are compared
pub same_bytes : (xs ys row : List ℕ) → true ≡ bytes_eq xs ys → xs ≡ row → ys ≡ row
same_bytes xs ys row test is = sym ((bytes_eq-Decides xs ys).0 (sym test)) ∙ is

pub other_bytes : (xs ys row : List ℕ) → false ≡ bytes_eq xs ys → xs ≡ row → ys ≡ row → ⊥
other_bytes xs ys row test is same = false≢true (test ∙ (bytes_eq-Decides xs ys).1 (is ∙ sym same))

pub mapped_at : {X Y : Type 0} (f : X → Y) (P : Y → Type 0) (xs : List X) (i : ℕ) (d : X) → AllByRecursion P (map f xs) → i < length xs → P (f (get_or xs i d))
mapped_at f P [] i d all within = absurd (omega arith)
mapped_at f P (x ∷ xs) zero d all within = all.0
mapped_at f P (x ∷ xs) (suc i) d all within = mapped_at f P xs i d all.1 (omega arith)
