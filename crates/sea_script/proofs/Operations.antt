-- Operations read one after the other, and one operation's words.
use Rattle.std.proofs.Common.{◌≡◌, inl, inr, ℕ, List, [], ◌∷◌, ◌++◌, length, Err, refl, sym, ap, subst, ◌∙◌, append_assoc}
use Rattle.std.specs.Option.{option_map_or}
use Rattle.std.specs.List.{find}
use Rattle.std.specs.Str.{bytes_eq}
use Rattle.sea_object.specs.declared.op.Op.{Op}
use Rattle.sea_script.specs.declared.fault.LineFault.{LineFault}
use Rattle.sea_script.specs.declared.fault.LineFault.TheVariants.{NoMemory, Why}
use Rattle.sea_script.specs.declared.table.Verb.{Verb}
use Rattle.sea_script.specs.declared.table.Verb.TheVariants.{Touch, Write, Zero, Truncate, Remove, SetAttr, RmAttr, RmAttrs, OmapSetKeys, OmapRmKeys, OmapRmKeyRange, OmapClear, Read, Stat, GetAttr, GetAttrs, OmapGet, OmapList, List as ListNames}
use Rattle.sea_script.specs.declared.table.TheConstants.{TABLE}
use Rattle.sea_script.specs.Operation.{IsFirstFault, Spells}
use Rattle.sea_script.specs.Reading.{ReadsArguments}
use Rattle.sea_script.specs.ReadingLines.{ReadsOp, ReadsOps}
use Rattle.sea_script.specs.Script.{OneByOne}
use Rattle.sea_script.specs.Table.{IsCount, word_of}

-- ---- words of operations

-- the operation that has the word
abbrev called_by : List ℕ → Verb
called_by word = option_map_or (λ row. row.1) (find (λ row. bytes_eq row.0.now word) TABLE) Touch

called_right : (called : Verb) → called_by (word_of called) ≡ called
called_right Touch = refl
called_right Write = refl
called_right Zero = refl
called_right Truncate = refl
called_right Remove = refl
called_right SetAttr = refl
called_right RmAttr = refl
called_right RmAttrs = refl
called_right OmapSetKeys = refl
called_right OmapRmKeys = refl
called_right OmapRmKeyRange = refl
called_right OmapClear = refl
called_right Read = refl
called_right Stat = refl
called_right GetAttr = refl
called_right GetAttrs = refl
called_right OmapGet = refl
called_right OmapList = refl
called_right ListNames = refl

-- no two operations have the same word
pub one_verb : (a b : Verb) → word_of a ≡ word_of b → a ≡ b
one_verb a b same = sym (called_right a) ∙ ap called_by same ∙ called_right b

-- ---- one operation

pub op_fails : (words : List (List ℕ)) (called : Verb) (word : List ℕ) (others : List (List ℕ)) (fault : LineFault) → words ≡ word ∷ others → word ≡ word_of called → ReadsArguments called others (Err fault) → ReadsOp words (Err fault)
op_fails words called word others NoMemory whole is fails = tt
op_fails words called word others (Why why) whole is (inl none) =
    inl (
      λ other rest form.
          let heads : word_of other ≡ word_of called = cc (form.words_are, whole, is) in
          let tails : rest ≡ others = cc (form.words_are, whole) in
          let same : other ≡ called = one_verb other called heads in
          none.0 (subst (λ v. IsCount v (length others)) same (subst (λ ws. IsCount other (length ws)) tails form.counted)),
      none.1,
    )
op_fails words called word others (Why why) whole is (inr bad) =
    inr (
      called,
      others,
      record { words_are = whole ∙ ap (λ w. w ∷ others) is; counted = bad.0 },
      bad.1,
    )

-- ---- operations

pub ops_fail : (all done rest : List (List (List ℕ))) (part : List (List ℕ)) (ops : List Op) (fault : LineFault) → all ≡ done ++ part ∷ rest → OneByOne Spells done ops → ReadsOp part (Err fault) → ReadsOps all (Err fault)
ops_fail all done rest part ops NoMemory whole each fails = tt
ops_fail all done rest part ops (Why why) whole each fails = subst (λ ps. IsFirstFault ps why) (sym whole) (behind done ops each)
  where
    behind : (done : List (List (List ℕ))) (ops : List Op) → OneByOne Spells done ops → IsFirstFault (done ++ part ∷ rest) why
    behind [] [] each = inl fails
    behind [] (op ∷ ops) each = absurd each
    behind (p ∷ done) [] each = absurd each
    behind (p ∷ done) (op ∷ ops) each = inr ((op, each.0), behind done ops each.1)

pub each_more : {A B : Type 0} (Holds : A → B → Type 0) (xs : List A) (ys : List B) (x : A) (y : B) → OneByOne Holds xs ys → Holds x y → OneByOne Holds (xs ++ x ∷ []) (ys ++ y ∷ [])
each_more Holds [] [] x y each this = (this, tt)
each_more Holds [] (b ∷ ys) x y each this = absurd each
each_more Holds (a ∷ xs) [] x y each this = absurd each
each_more Holds (a ∷ xs) (b ∷ ys) x y each this = (each.0, each_more Holds xs ys x y each.1 this)

pub left_more : {A : Type 0} (all done left rest : List A) (a : A) → all ≡ done ++ left → left ≡ a ∷ rest → all ≡ (done ++ a ∷ []) ++ rest
left_more all done left rest a so_far next =
    so_far ∙ ap (λ xs. done ++ xs) next ∙ sym (append_assoc done (a ∷ []) rest)
