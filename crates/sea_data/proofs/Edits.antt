-- What an edit makes of a block, byte by byte.
use Rattle.std.proofs.Common.{◌≡◌, ◌⊎◌, inl, inr, ℕ, ◌+◌, ◌-◌, ◌<◌, ◌≤◌, List, [], ◌++◌, get_or, length, take, drop, replicate, Option, Some, None, refl, sym, ap, ◌∙◌, arith}
use Rattle.std.specs.Prelude.{min}
use Rattle.std.proofs.lemmas.Bool.{cases_lt}
use Rattle.std.proofs.lemmas.List.{length-take, length-drop, length-append, length-replicate, get_or-take, get_or-drop, get_or-replicate, get_or_append_left, get_or-append_right, get_or_past}
use Rattle.sea_base.specs.Splice.{spliced}
use Rattle.sea_data.specs.Bytes.{block_byte}
use Rattle.sea_data.specs.Steps.{among_zeros, IsZero}

-- Bytes were laid over a block from a place on.
pub record IsOver (from : ℕ) (bytes : List ℕ) (old new : Option (List ℕ)) : Type 0 where
  pub inside : (j : ℕ) → from ≤ j → j < from + length bytes → block_byte new j ≡ get_or bytes (j - from) 0
  pub outside : (j : ℕ) → j < 4096 → (j < from) ⊎ (from + length bytes ≤ j) → block_byte new j ≡ block_byte old j

-- A block was zeroed from a place on.
pub record IsCleared (cut : ℕ) (old new : Option (List ℕ)) : Type 0 where
  pub inside : (j : ℕ) → cut ≤ j → j < 4096 → block_byte new j ≡ 0
  pub outside : (j : ℕ) → j < cut → block_byte new j ≡ block_byte old j

-- a byte of lists one behind the other
front : (a b : List ℕ) (j : ℕ) → j < length a → get_or (a ++ b) j 0 ≡ get_or a j 0
front a b j lt = get_or_append_left a b 0 j lt

behind : (a b : List ℕ) (n j : ℕ) → length a ≡ n → n ≤ j → get_or (a ++ b) j 0 ≡ get_or b (j - n) 0
behind a b n j is le = get_or-append_right a b n j 0 is le

pub zero_at : (n j : ℕ) → get_or {A = ℕ} (replicate n 0) j 0 ≡ 0
zero_at n j =
    elim (cases_lt j n) [
      | inl within ↦ get_or-replicate n j 0 0 within
      | inr past ↦ get_or_past (replicate n 0) j 0 (omega (arith, length-replicate {A = ℕ} n 0))
    ]

-- what a splice makes, before, within and behind the new bytes
spliced_front : (cut gone : ℕ) (put block : List ℕ) (j : ℕ) → length block ≡ 4096 → cut ≤ 4096 → j < cut → get_or (spliced cut gone put block) j 0 ≡ get_or block j 0
unfolding spliced
spliced_front cut gone put block j long fits lt =
    let head : List ℕ = take cut block in
    let rest : List ℕ = drop (cut + gone) block in
    let h : length head ≡ min cut (length block) = length-take cut block in
    let one : length (head ++ put) ≡ length head + length put = length-append head put in
    let two : length (head ++ put ++ rest) ≡ length (head ++ put) + length rest = length-append (head ++ put) rest in
    get_or-take 4096 (head ++ put ++ rest ++ replicate 4096 0) j 0 (omega arith)
    ∙ front (head ++ put ++ rest) (replicate 4096 0) j (omega arith)
    ∙ front (head ++ put) rest j (omega arith)
    ∙ front head put j (omega arith)
    ∙ get_or-take cut block j 0 lt

spliced_put : (cut gone : ℕ) (put block : List ℕ) (j : ℕ) → length block ≡ 4096 → cut + length put ≤ 4096 → cut ≤ j → j < cut + length put → get_or (spliced cut gone put block) j 0 ≡ get_or put (j - cut) 0
unfolding spliced
spliced_put cut gone put block j long fits from lt =
    let head : List ℕ = take cut block in
    let rest : List ℕ = drop (cut + gone) block in
    let h : length head ≡ min cut (length block) = length-take cut block in
    let one : length (head ++ put) ≡ length head + length put = length-append head put in
    let two : length (head ++ put ++ rest) ≡ length (head ++ put) + length rest = length-append (head ++ put) rest in
    get_or-take 4096 (head ++ put ++ rest ++ replicate 4096 0) j 0 (omega arith)
    ∙ front (head ++ put ++ rest) (replicate 4096 0) j (omega arith)
    ∙ front (head ++ put) rest j (omega arith)
    ∙ behind head put cut j (omega arith) from

spliced_rest : (cut gone : ℕ) (put block : List ℕ) (j : ℕ) → length block ≡ 4096 → cut + length put ≤ 4096 → gone ≡ length put → cut + length put ≤ j → j < 4096 → get_or (spliced cut gone put block) j 0 ≡ get_or block j 0
unfolding spliced
spliced_rest cut gone put block j long fits even from lt =
    let head : List ℕ = take cut block in
    let rest : List ℕ = drop (cut + gone) block in
    let h : length head ≡ min cut (length block) = length-take cut block in
    let one : length (head ++ put) ≡ length head + length put = length-append head put in
    let r : length rest ≡ length block - (cut + gone) = length-drop (cut + gone) block in
    let two : length (head ++ put ++ rest) ≡ length (head ++ put) + length rest = length-append (head ++ put) rest in
    let at : cut + gone + (j - (cut + length put)) ≡ j = omega arith in
    get_or-take 4096 (head ++ put ++ rest ++ replicate 4096 0) j 0 lt
    ∙ front (head ++ put ++ rest) (replicate 4096 0) j (omega arith)
    ∙ behind (head ++ put) rest (cut + length put) j (omega arith) from
    ∙ get_or-drop (cut + gone) block (j - (cut + length put)) 0
    ∙ ap (λ (n : ℕ). get_or block n 0) at

spliced_zeros : (cut gone : ℕ) (block : List ℕ) (j : ℕ) → length block ≡ 4096 → cut + gone ≡ 4096 → cut ≤ j → j < 4096 → get_or (spliced cut gone [] block) j 0 ≡ 0
unfolding spliced
spliced_zeros cut gone block j long whole from lt =
    let head : List ℕ = take cut block in
    let rest : List ℕ = drop (cut + gone) block in
    let h : length head ≡ min cut (length block) = length-take cut block in
    let one : length (head ++ []) ≡ length head + length {A = ℕ} [] = length-append head [] in
    let r : length rest ≡ length block - (cut + gone) = length-drop (cut + gone) block in
    let two : length (head ++ [] ++ rest) ≡ length (head ++ []) + length rest = length-append (head ++ []) rest in
    get_or-take 4096 (head ++ [] ++ rest ++ replicate 4096 0) j 0 lt
    ∙ behind (head ++ [] ++ rest) (replicate 4096 0) cut j (omega arith) from
    ∙ zero_at 4096 (j - cut)

-- the edits
pub over_whole : (from : ℕ) (bytes : List ℕ) (old : Option (List ℕ)) → length bytes ≡ 4096 → from + length bytes ≤ 4096 → IsOver from bytes old (Some bytes)
over_whole from bytes old whole room =
    let none : (j : ℕ) → j - from ≡ j = λ j. omega arith in record {
      inside = λ j after before. ap (λ (n : ℕ). get_or bytes n 0) (sym (none j));
      outside = λ j lt apart. absurd (elim apart [ inl before ↦ omega arith | inr past ↦ omega arith ]);
    }

pub over_zeros : (from : ℕ) (bytes : List ℕ) → from + length bytes ≤ 4096 → IsOver from bytes None (Some (among_zeros from bytes))
over_zeros from bytes room =
    let lead : List ℕ = replicate from 0 in
    let rest : List ℕ = replicate (4096 - (from + length bytes)) 0 in
    let l : length lead ≡ from = length-replicate from 0 in
    let one : length (lead ++ bytes) ≡ length lead + length bytes = length-append lead bytes in
    record {
      inside = λ j after before. front (lead ++ bytes) rest j (omega arith) ∙ behind lead bytes from j l after;
      outside = λ j lt apart. elim apart [
        | inl before ↦ front (lead ++ bytes) rest j (omega arith) ∙ front lead bytes j (omega arith) ∙ zero_at from j
        | inr past ↦ behind (lead ++ bytes) rest (from + length bytes) j (omega arith) past ∙ zero_at (4096 - (from + length bytes)) (j - (from + length bytes))
      ];
    }

pub over_block : (from : ℕ) (bytes block : List ℕ) → length block ≡ 4096 → from + length bytes ≤ 4096 → IsOver from bytes (Some block) (Some (spliced from (length bytes) bytes block))
over_block from bytes block long room = record {
  inside = λ j after before. spliced_put from (length bytes) bytes block j long room after before;
  outside = λ j lt apart. elim apart [
    | inl before ↦ spliced_front from (length bytes) bytes block j long (omega arith) before
    | inr past ↦ spliced_rest from (length bytes) bytes block j long room refl past lt
  ];
}

pub cleared_none : (cut : ℕ) → IsCleared cut None None
cleared_none cut = record { inside = λ j after lt. refl; outside = λ j before. refl }

pub cleared_zeros : (cut : ℕ) (block : List ℕ) → IsZero (drop cut block) → IsCleared cut (Some block) (Some block)
cleared_zeros cut block zeros = record {
  inside = λ j after lt.
      let at : cut + (j - cut) ≡ j = omega arith in
      ap (λ (n : ℕ). get_or block n 0) (sym at) ∙ sym (get_or-drop cut block (j - cut) 0)
      ∙ ap (λ (bs : List ℕ). get_or bs (j - cut) 0) zeros ∙ zero_at (length (drop cut block)) (j - cut);
  outside = λ j before. refl;
}

pub cleared_block : (cut : ℕ) (block : List ℕ) → length block ≡ 4096 → cut ≤ 4096 → IsCleared cut (Some block) (Some (spliced cut (4096 - cut) [] block))
cleared_block cut block long fits = record {
  inside = λ j after lt. spliced_zeros cut (4096 - cut) block j long (omega arith) after lt;
  outside = λ j before. spliced_front cut (4096 - cut) [] block j long fits before;
}
