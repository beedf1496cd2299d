-- A line is read in one way.
use Rattle.std.proofs.Common.{◌≡◌, ℕ, ◌≤◌, List, [], ◌∷◌, length, drop, get_or, Some, refl, sym, ap, subst, ◌∙◌, arith}
use Rattle.std.specs.Prelude.{Option, None, map}
use Rattle.std.specs.List.{flat_map, AllByRecursion}
use Rattle.std.specs.Fmt.{decimal}
use Rattle.std.proofs.lemmas.Fmt.{decimal_nonempty}
use Rattle.std.proofs.lemmas.List.{length-map}
use Rattle.sea_object.specs.declared.op.Op.{Op}
use Rattle.sea_object.specs.declared.op.Op.TheVariants.{Touch, Write, Zero, Truncate, Remove, SetAttr, RmAttr, RmAttrs, OmapSetKeys, OmapRmKeys, OmapRmKeyRange, OmapClear, Read, Stat, GetAttr, GetAttrs, OmapGet, OmapList, List as ListNames}
use Rattle.sea_script.specs.declared.argument.Argument.{Argument}
use Rattle.sea_script.specs.declared.argument.Argument.TheVariants.{Name, Number, Bytes}
use Rattle.sea_script.specs.declared.asked.Asked.{Asked}
use Rattle.sea_script.specs.declared.event.Event.{Event}
use Rattle.sea_script.specs.declared.event.Event.TheVariants.{Client, Sync, Trim, Pick, Move, Release}
use Rattle.sea_script.specs.declared.table.Verb.{Verb}
use Rattle.sea_script.specs.declared.table.Verb.TheVariants as verb
use Rattle.sea_script.specs.Argument.{IsArgument, argument_text, kind_of, kinds, option_arguments, pair_arguments}
use Rattle.sea_script.specs.Operation.{Spells, arguments, verb_of}
use Rattle.sea_script.specs.Script.{Asks, IsClient, IsEvent, OneByOne, StandsFor, event_text, parts}
use Rattle.sea_script.specs.Table.{kinds_for, word_of}
use Rattle.sea_script.specs.Word.{data_text, name_text}
use Rattle.sea_script.proofs.Numbers.{one_number, spelled_digits}
use Rattle.sea_script.proofs.Operations.{one_verb}
use Rattle.sea_script.proofs.Spelling.{one_data, one_name}

-- ---- words of operations

one_argument : (a b : Argument) → IsArgument a → IsArgument b → kind_of a ≡ kind_of b → argument_text a ≡ argument_text b → a ≡ b
one_argument (Name n) (Name m) is_a is_b kind text = ap Name (one_name (name_text n) n m is_a.1 is_b.1 refl text)
one_argument (Number n) (Number m) is_a is_b kind text = ap Number (one_number n m is_a is_b text)
one_argument (Bytes n) (Bytes m) is_a is_b kind text = ap Bytes (one_data (data_text n) n m is_a is_b refl text)
one_argument a b is_a is_b kind text = cc

one_arguments : (xs ys : List Argument) → AllByRecursion IsArgument xs → AllByRecursion IsArgument ys → kinds xs ≡ kinds ys → map argument_text xs ≡ map argument_text ys → xs ≡ ys
one_arguments [] [] all_x all_y same texts = refl
one_arguments [] (y ∷ ys) all_x all_y same texts = cc
one_arguments (x ∷ xs) [] all_x all_y same texts = cc
one_arguments (x ∷ xs) (y ∷ ys) all_x all_y same texts =
    let kind : kind_of x ≡ kind_of y = cc in
    let text : argument_text x ≡ argument_text y = cc in
    let others : kinds xs ≡ kinds ys = cc in
    let rest : map argument_text xs ≡ map argument_text ys = cc in
    let head = one_argument x y all_x.0 all_y.0 kind text in
    let tails = one_arguments xs ys all_x.1 all_y.1 others rest in
    cc

-- ---- operations from their parts

as_name : Argument → List ℕ
as_name (Name name) = name
as_name _ = []

as_number : Argument → ℕ
as_number (Number n) = n
as_number _ = 0

as_bytes : Argument → List ℕ
as_bytes (Bytes bytes) = bytes
as_bytes _ = []

abbrev name_at : ℕ → List Argument → List ℕ
name_at i all = as_name (get_or all i (Number 0))

abbrev number_at : ℕ → List Argument → ℕ
number_at i all = as_number (get_or all i (Number 0))

abbrev bytes_at : ℕ → List Argument → List ℕ
bytes_at i all = as_bytes (get_or all i (Number 0))

pairs_of : List Argument → List (List ℕ × List ℕ)
pairs_of (k ∷ v ∷ all) = (as_name k, as_bytes v) ∷ pairs_of all
pairs_of _ = []

option_of : List Argument → Option (List ℕ)
option_of [] = None
option_of (a ∷ all) = Some (as_name a)

abbrev op_of : Verb → List Argument → Op
op_of verb.Touch all = Touch (name_at 0 all)
op_of verb.Write all = Write (name_at 0 all) (number_at 1 all) (bytes_at 2 all)
op_of verb.Zero all = Zero (name_at 0 all) (number_at 1 all) (number_at 2 all)
op_of verb.Truncate all = Truncate (name_at 0 all) (number_at 1 all)
op_of verb.Remove all = Remove (name_at 0 all)
op_of verb.SetAttr all = SetAttr (name_at 0 all) (name_at 1 all) (bytes_at 2 all)
op_of verb.RmAttr all = RmAttr (name_at 0 all) (name_at 1 all)
op_of verb.RmAttrs all = RmAttrs (name_at 0 all)
op_of verb.OmapSetKeys all = OmapSetKeys (name_at 0 all) (pairs_of (drop 1 all))
op_of verb.OmapRmKeys all = OmapRmKeys (name_at 0 all) (map as_name (drop 1 all))
op_of verb.OmapRmKeyRange all = OmapRmKeyRange (name_at 0 all) (name_at 1 all) (name_at 2 all) (number_at 3 all)
op_of verb.OmapClear all = OmapClear (name_at 0 all)
op_of verb.Read all = Read (name_at 0 all) (number_at 1 all) (number_at 2 all)
op_of verb.Stat all = Stat (name_at 0 all)
op_of verb.GetAttr all = GetAttr (name_at 0 all) (name_at 1 all)
op_of verb.GetAttrs all = GetAttrs (name_at 0 all)
op_of verb.OmapGet all = OmapGet (name_at 0 all) (name_at 1 all)
op_of verb.OmapList all = OmapList (name_at 0 all) (number_at 1 all) (option_of (drop 2 all))
op_of verb.List all = ListNames (number_at 0 all) (option_of (drop 1 all))

names_back : (names : List (List ℕ)) → map as_name (map Name names) ≡ names
unfolding as_name
names_back [] = refl
names_back (n ∷ names) = ap (λ ns. n ∷ ns) (names_back names)

pairs_back : (pairs : List (List ℕ × List ℕ)) → pairs_of (flat_map pair_arguments pairs) ≡ pairs
unfolding pairs_of as_name as_bytes
pairs_back [] = refl
pairs_back (p ∷ pairs) = ap (λ ps. p ∷ ps) (pairs_back pairs)

option_back : (name : Option (List ℕ)) → option_of (option_arguments name) ≡ name
unfolding option_of as_name
option_back None = refl
option_back (Some name) = refl

op_back : (op : Op) → op_of (verb_of op) (arguments op) ≡ op
unfolding as_name as_number as_bytes
op_back (Touch name) = refl
op_back (Write name offset bytes) = refl
op_back (Zero name offset count) = refl
op_back (Truncate name size) = refl
op_back (Remove name) = refl
op_back (SetAttr name key value) = refl
op_back (RmAttr name key) = refl
op_back (RmAttrs name) = refl
op_back (OmapSetKeys name pairs) = ap (OmapSetKeys name) (pairs_back pairs)
op_back (OmapRmKeys name keys) = ap (OmapRmKeys name) (names_back keys)
op_back (OmapRmKeyRange name from to bound) = refl
op_back (OmapClear name) = refl
op_back (Read name offset count) = refl
op_back (Stat name) = refl
op_back (GetAttr name key) = refl
op_back (GetAttrs name) = refl
op_back (OmapGet name key) = refl
op_back (OmapList name limit after) = ap (OmapList name limit) (option_back after)
op_back (ListNames limit after) = ap (ListNames limit) (option_back after)

-- words spell one operation
pub one_op : (words : List (List ℕ)) (a b : Op) → Spells words a → Spells words b → a ≡ b
one_op words a b is_a is_b =
    let heads : word_of (verb_of a) ≡ word_of (verb_of b) = cc (is_a.words_are, is_b.words_are) in
    let texts : map argument_text (arguments a) ≡ map argument_text (arguments b) = cc (is_a.words_are, is_b.words_are) in
    let called = one_verb (verb_of a) (verb_of b) heads in
    let long : length (arguments a) ≡ length (arguments b) = sym (length-map (arguments a) argument_text) ∙ ap length texts ∙ length-map (arguments b) argument_text in
    let same_kinds = is_a.listed ∙ ap (λ v. kinds_for v (length (arguments a))) called ∙ ap (kinds_for (verb_of b)) long ∙ sym is_b.listed in
    let parts = one_arguments (arguments a) (arguments b) is_a.good is_b.good same_kinds texts in
    sym (op_back a) ∙ ap (λ v. op_of v (arguments a)) called ∙ ap (op_of (verb_of b)) parts ∙ op_back b

-- what one list has only one of, each of a list has only one list of
pub one_by_one : {A B : Type 0} (Holds : A → B → Type 0) → ((a : A) (x y : B) → Holds a x → Holds a y → x ≡ y) → (as_ : List A) (xs ys : List B) → OneByOne Holds as_ xs → OneByOne Holds as_ ys → xs ≡ ys
one_by_one Holds one [] [] [] each_x each_y = refl
one_by_one Holds one [] [] (y ∷ ys) each_x each_y = absurd each_y
one_by_one Holds one [] (x ∷ xs) ys each_x each_y = absurd each_x
one_by_one Holds one (a ∷ as_) [] ys each_x each_y = absurd each_x
one_by_one Holds one (a ∷ as_) (x ∷ xs) [] each_x each_y = absurd each_y
one_by_one Holds one (a ∷ as_) (x ∷ xs) (y ∷ ys) each_x each_y =
    let head : x ≡ y = one a x y each_x.0 each_y.0 in
    let tails : xs ≡ ys = one_by_one Holds one as_ xs ys each_x.1 each_y.1 in
    cc

-- ---- requests

-- the words of a line name one client
pub one_client : (said : List (List ℕ)) (m n : ℕ) (xs ys : List (List ℕ)) → IsClient m → IsClient n → said ≡ decimal m ∷ xs → said ≡ decimal n ∷ ys → (m ≡ n) × (xs ≡ ys)
one_client said m n xs ys is_m is_n of_m of_n =
    let texts : decimal m ≡ decimal n = cc in
    let others : xs ≡ ys = cc in
    (one_number m n (omega (arith, is_m.1)) (omega (arith, is_n.1)) texts, others)

abbrev made : ℕ → List Op → Asked
made client request = record { client = client; request = request }

pub one_asked : (said : List (List ℕ)) (a b : Asked) → Asks said a → Asks said b → a ≡ b
one_asked said a b asks_a asks_b =
    let front = one_client said a.client b.client asks_a.0.0 asks_b.0.0 asks_a.0.1.0 asks_b.0.1.0 asks_a.0.1.1 asks_b.0.1.1 in
    let ops = one_by_one Spells one_op (parts asks_a.0.0) a.request b.request asks_a.0.2 (subst (λ xs. OneByOne Spells (parts xs) b.request) (sym front.1) asks_b.0.2) in
    ap (λ c. made c a.request) front.0 ∙ ap (made b.client) ops

-- ---- events

abbrev first : List ℕ → ℕ
first text = get_or text 0 0

client_first : (n : ℕ) → IsClient n → (48 ≤ first (decimal n)) × (first (decimal n) ≤ 57)
client_first n is = spelled_digits (decimal n) n 0 (omega (arith, is.1)) refl (decimal_nonempty n (omega (arith, is.1)))

pub one_event : (word : List ℕ) (e f : Event) → StandsFor word e → StandsFor word f → e ≡ f
one_event word e f is_e is_f = go e f is_e.0 is_f.0 (sym is_e.1 ∙ is_f.1)
  where
    go : (e f : Event) → IsEvent e → IsEvent f → event_text e ≡ event_text f → e ≡ f
    go (Client m) (Client n) is_m is_n same = ap Client (one_number m n (omega (arith, is_m.1)) (omega (arith, is_n.1)) same)
    go (Client m) f is_m is_f same = absurd (omega (arith, ap first same, client_first m is_m))
    go e (Client n) is_e is_n same = absurd (omega (arith, ap first same, client_first n is_n))
    go Sync Sync is_e is_f same = refl
    go Trim Trim is_e is_f same = refl
    go Pick Pick is_e is_f same = refl
    go Move Move is_e is_f same = refl
    go Release Release is_e is_f same = refl
    go e f is_e is_f same = absurd (omega (arith, ap first same))
