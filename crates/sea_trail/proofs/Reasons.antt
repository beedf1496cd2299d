-- An image is refused for one reason alone.
use Rattle.std.proofs.Common.{◌≡◌, ℕ, ◌+◌, ◌<◌, ◌≤◌, List, [], ◌∷◌, ◌++◌, refl, sym, ap, ◌∙◌, subst, inl, inr, arith}
use Rattle.std.proofs.lemmas.Bool.{cases_lt}
use Rattle.sea_segment.specs.declared.header.Header.{Header}
use Rattle.sea_segment.proofs.Supers.{same_super}
use Rattle.sea_trail.specs.declared.fault.ImageWhy.{ImageWhy}
use Rattle.sea_trail.specs.declared.fault.ImageWhy.TheVariants.{NoSuper, OldFormat, Short, NoSegment, MissingSegment, BadRecord}
use Rattle.sea_trail.specs.declared.trail.Part.{Part}
use Rattle.sea_trail.specs.Trail.{AreClosed, AreLinked, FollowOn, Follows, HasHeader, HasSegments, HasSuper, IsOpen, block_of}
use Rattle.sea_trail.specs.Refusals.{HasNoSegment, IsBad, IsBreak, IsMissing, IsOld, IsRefused, IsShort, IsTorn, TailAstray, ahead, torn, astray}
use Rattle.sea_trail.proofs.Growth.{last_linked}
use Rattle.sea_trail.proofs.Joined.{AreParts-at}
use Rattle.sea_trail.proofs.Unique.{no_break, same_both, same_open, same_segments}

-- ---- an earlier reason and a later one

no_old : (image : List ℕ) (found segments : ℕ) → IsOld image found → HasSuper image 1 segments → ⊥
no_old image found segments old super = old.other (same_super (block_of image 0) found 1 old.segments segments old.super.spells super.spells).0

no_short : (image : List ℕ) (have need segments : ℕ) → IsShort image have need → HasSegments image segments → ⊥
no_short image have need segments short has =
    let count = (same_super (block_of image 0) 1 1 short.segments segments short.super.spells has.super.spells).1 in
    omega (arith, count, short.has, short.needs, short.fewer, has.long)

no_open : (image : List ℕ) (segments : ℕ) (p : Part) → HasNoSegment image → IsOpen image segments p → ⊥
no_open image segments p none is =
    let count : segments ≡ none.segments = same_segments image segments none.segments is.super none.super in
    let has = is.newest.numbered.has in
    none.none p.header (record { within = omega (arith, count, has.within); stands = has.stands })

-- the open segment of an image that is refused for a record
pub record HasOpen (image : List ℕ) : Type 0 where
  pub segments : ℕ
  pub newest : Part
  pub is_open : IsOpen image segments newest

bad_open : (image : List ℕ) (block : ℕ) → IsBad image block → HasOpen image
bad_open image block (ahead bad) = record { segments = bad.segments; newest = bad.newest; is_open = bad.is_open }
bad_open image block (torn bad) = record { segments = bad.segments; newest = bad.newest; is_open = bad.is_open }
bad_open image block (astray bad) = record { segments = bad.segments; newest = bad.newest; is_open = bad.is_open }

-- where no segment is missing, none is
none_missing : (image : List ℕ) (seq segments : ℕ) (p : Part) (closed : List Part) → IsMissing image seq → IsOpen image segments p → AreClosed image segments p closed → ⊥
none_missing image seq segments p closed missing is are =
    let count : segments ≡ missing.segments = same_segments image segments missing.segments is.super missing.is_open.super in
    let same : p ≡ missing.newest = same_open image segments missing.segments p missing.newest is missing.is_open in
    let low : p.last.tail.seq ≤ seq = subst (λ (q : Part). q.last.tail.seq ≤ seq) (sym same) missing.from_tail in
    let high : seq ≤ p.header.seq = subst (λ (q : Part). seq ≤ q.header.seq) (sym same) missing.to_newest in
    let none : (h : Header) → HasHeader image segments h → h.seq ≡ seq → ⊥ = subst (λ (n : ℕ). (h : Header) → HasHeader image n h → h.seq ≡ seq → ⊥) (sym count) missing.none in
    elim (cases_lt seq p.header.seq) [
      | inl lt ↦ (let there = AreParts-at image segments p.last.tail.seq closed are.parts seq low (omega (arith, are.joined)) in none there.0 there.1.has there.1.number)
      | inr ge ↦ (let e : p.header.seq ≡ seq = omega arith in none p.header is.newest.numbered.has e)
    ]

missing_bad : (image : List ℕ) (seq block : ℕ) → IsMissing image seq → IsBad image block → ⊥
missing_bad image seq block missing (ahead bad) =
    let same : bad.newest ≡ missing.newest = same_open image bad.segments missing.segments bad.newest missing.newest bad.is_open missing.is_open in
    let lt = subst (λ (p : Part). p.header.seq < p.last.tail.seq) same bad.ahead in
    omega (arith, lt, missing.from_tail, missing.to_newest)
missing_bad image seq block missing (torn bad) = none_missing image seq bad.segments bad.newest bad.closed missing bad.is_open bad.are_closed
missing_bad image seq block missing (astray bad) = none_missing image seq bad.segments bad.newest bad.closed missing bad.is_open bad.are_closed

-- ---- the same reason twice

-- the first missing number
not_before : (image : List ℕ) (a b : ℕ) → IsMissing image a → IsMissing image b → a < b → ⊥
not_before image a b is_a is_b lt =
    let count : is_b.segments ≡ is_a.segments = same_segments image is_b.segments is_a.segments is_b.is_open.super is_a.is_open.super in
    let same : is_a.newest ≡ is_b.newest = same_open image is_a.segments is_b.segments is_a.newest is_b.newest is_a.is_open is_b.is_open in
    let low : is_b.newest.last.tail.seq ≤ a = subst (λ (p : Part). p.last.tail.seq ≤ a) same is_a.from_tail in
    let there = is_b.first a low lt in
    let has : HasHeader image is_a.segments there.0 = subst (λ (n : ℕ). HasHeader image n there.0) count there.1.has in
    is_a.none there.0 has there.1.number

same_missing : (image : List ℕ) (a b : ℕ) → IsMissing image a → IsMissing image b → a ≡ b
same_missing image a b is_a is_b =
    elim (cases_lt a b) [
      | inl lt ↦ absurd (not_before image a b is_a is_b lt)
      | inr ge ↦ elim (cases_lt b a) [
        | inl lt ↦ absurd (not_before image b a is_b is_a lt)
        | inr le ↦ omega arith
      ]
    ]

-- segments that go on up to one behind the first have no break behind the first
goes_on : (a next : Part) (back front : List Part) (b other : Part) (rest : List Part) → next ∷ back ≡ front ++ b ∷ other ∷ rest
    → FollowOn a.last (front ++ b ∷ []) → (Follows a.last next.header → ⊥) → ⊥
goes_on a next back [] b other rest e on broken =
    let same : b ≡ next = cc in broken (subst (λ (p : Part). Follows a.last p.header) same on.0)
goes_on a next back (p ∷ ps) b other rest e on broken =
    let same : p ≡ next = cc in broken (subst (λ (q : Part). Follows a.last q.header) same on.0)

-- the first break
one_break : (f : List Part) (a next : Part) (back g : List Part) (b other : Part) (rest : List Part) → f ++ a ∷ next ∷ back ≡ g ++ b ∷ other ∷ rest
    → AreLinked (f ++ a ∷ []) → AreLinked (g ++ b ∷ []) → (Follows a.last next.header → ⊥) → (Follows b.last other.header → ⊥) → a ≡ b
one_break [] a next back [] b other rest e link_a link_b broken_a broken_b = cc
one_break [] a next back (q ∷ qs) b other rest e link_a link_b broken_a broken_b =
    let same : q ≡ a = cc in
    let more : next ∷ back ≡ qs ++ b ∷ other ∷ rest = cc in
    absurd (goes_on a next back qs b other rest more (subst (λ (p : Part). FollowOn p.last (qs ++ b ∷ [])) same link_b) broken_a)
one_break (p ∷ ps) a next back [] b other rest e link_a link_b broken_a broken_b =
    let same : p ≡ b = cc in
    let more : other ∷ rest ≡ ps ++ a ∷ next ∷ back = cc in
    absurd (goes_on b other rest ps a next back more (subst (λ (q : Part). FollowOn q.last (ps ++ a ∷ [])) same link_a) broken_b)
one_break (p ∷ ps) a next back (q ∷ qs) b other rest e link_a link_b broken_a broken_b =
    let more : ps ++ a ∷ next ∷ back ≡ qs ++ b ∷ other ∷ rest = cc in
    one_break ps a next back qs b other rest more (last_linked (p ∷ []) (ps ++ a ∷ []) link_a) (last_linked (q ∷ []) (qs ++ b ∷ []) link_b) broken_a broken_b

same_break : (parts : List Part) (a b : ℕ) → IsBreak parts a → IsBreak parts b → a ≡ b
same_break parts a b is_a is_b =
    let same = one_break is_a.front is_a.part is_a.next is_a.back is_b.front is_b.part is_b.next is_b.back (sym is_a.cut ∙ is_b.cut) is_a.linked is_b.linked is_a.broken is_b.broken in
    is_a.at ∙ ap (λ (p : Part). p.end.0) same ∙ sym is_b.at

-- the tail can't be ahead of the open segment where there are closed ones
not_ahead : (image : List ℕ) (m n : ℕ) (p q : Part) (closed : List Part) → IsOpen image m p → p.header.seq < p.last.tail.seq → IsOpen image n q → AreClosed image n q closed → ⊥
not_ahead image m n p q closed is_p lt is_q are =
    let same : p ≡ q = same_open image m n p q is_p is_q in
    let lt' = subst (λ (r : Part). r.header.seq < r.last.tail.seq) same lt in
    omega (arith, lt', are.joined)

torn_astray : (image : List ℕ) (a b : ℕ) → IsTorn image a → TailAstray image b → ⊥
torn_astray image a b bad good =
    let both = same_both image bad.segments good.segments bad.newest good.newest bad.closed good.closed bad.is_open good.is_open bad.are_closed good.are_closed in
    let parts : bad.closed ++ bad.newest ∷ [] ≡ good.closed ++ good.newest ∷ [] = ap (λ (xs : List Part). xs ++ bad.newest ∷ []) both.closed ∙ ap (λ (p : Part). good.closed ++ p ∷ []) both.open_part in
    no_break (good.closed ++ good.newest ∷ []) a good.linked (subst (λ (ps : List Part). IsBreak ps a) parts bad.first_break)

same_torn : (image : List ℕ) (a b : ℕ) → IsTorn image a → IsTorn image b → a ≡ b
same_torn image a b is_a is_b =
    let both = same_both image is_a.segments is_b.segments is_a.newest is_b.newest is_a.closed is_b.closed is_a.is_open is_b.is_open is_a.are_closed is_b.are_closed in
    let parts : is_a.closed ++ is_a.newest ∷ [] ≡ is_b.closed ++ is_b.newest ∷ [] = ap (λ (xs : List Part). xs ++ is_a.newest ∷ []) both.closed ∙ ap (λ (p : Part). is_b.closed ++ p ∷ []) both.open_part in
    same_break (is_b.closed ++ is_b.newest ∷ []) a b (subst (λ (ps : List Part). IsBreak ps a) parts is_a.first_break) is_b.first_break

same_tail : (image : List ℕ) (m n a b : ℕ) (p q : Part) → IsOpen image m p → IsOpen image n q → a ≡ p.last.tail.place.0 → b ≡ q.last.tail.place.0 → a ≡ b
same_tail image m n a b p q is_p is_q at_a at_b =
    at_a ∙ ap (λ (r : Part). r.last.tail.place.0) (same_open image m n p q is_p is_q) ∙ sym at_b

same_bad : (image : List ℕ) (a b : ℕ) → IsBad image a → IsBad image b → a ≡ b
same_bad image a b (ahead x) (ahead y) = same_tail image x.segments y.segments a b x.newest y.newest x.is_open y.is_open x.at y.at
same_bad image a b (ahead x) (torn y) = absurd (not_ahead image x.segments y.segments x.newest y.newest y.closed x.is_open x.ahead y.is_open y.are_closed)
same_bad image a b (ahead x) (astray y) = absurd (not_ahead image x.segments y.segments x.newest y.newest y.closed x.is_open x.ahead y.is_open y.are_closed)
same_bad image a b (torn x) (ahead y) = absurd (not_ahead image y.segments x.segments y.newest x.newest x.closed y.is_open y.ahead x.is_open x.are_closed)
same_bad image a b (torn x) (torn y) = same_torn image a b x y
same_bad image a b (torn x) (astray y) = absurd (torn_astray image a b x y)
same_bad image a b (astray x) (ahead y) = absurd (not_ahead image y.segments x.segments y.newest x.newest x.closed y.is_open y.ahead x.is_open x.are_closed)
same_bad image a b (astray x) (torn y) = absurd (torn_astray image b a y x)
same_bad image a b (astray x) (astray y) = same_tail image x.segments y.segments a b x.newest y.newest x.is_open y.is_open x.at y.at

-- ---- the law

pub one_reason : (image : List ℕ) (a b : ImageWhy) → IsRefused image a → IsRefused image b → a ≡ b
one_reason image NoSuper NoSuper a b = refl
one_reason image NoSuper (OldFormat found) a b = absurd (a found b.segments b.super)
one_reason image NoSuper (Short have need) a b = absurd (a 1 b.segments b.super)
one_reason image NoSuper NoSegment a b = absurd (a 1 b.segments b.super.super)
one_reason image NoSuper (MissingSegment seq) a b = absurd (a 1 b.segments b.is_open.super.super)
one_reason image NoSuper (BadRecord block) a b = let is = bad_open image block.0 b in absurd (a 1 is.segments is.is_open.super.super)
one_reason image (OldFormat found) NoSuper a b = absurd (b found a.segments a.super)
one_reason image (OldFormat found) (OldFormat other) a b =
    ap OldFormat (same_super (block_of image 0) found other a.segments b.segments a.super.spells b.super.spells).0
one_reason image (OldFormat found) (Short have need) a b = absurd (no_old image found b.segments a b.super)
one_reason image (OldFormat found) NoSegment a b = absurd (no_old image found b.segments a b.super.super)
one_reason image (OldFormat found) (MissingSegment seq) a b = absurd (no_old image found b.segments a b.is_open.super.super)
one_reason image (OldFormat found) (BadRecord block) a b = let is = bad_open image block.0 b in absurd (no_old image found is.segments a is.is_open.super.super)
one_reason image (Short have need) NoSuper a b = absurd (b 1 a.segments a.super)
one_reason image (Short have need) (OldFormat found) a b = absurd (no_old image found a.segments b a.super)
one_reason image (Short have need) (Short had needed) a b =
    let count = (same_super (block_of image 0) 1 1 a.segments b.segments a.super.spells b.super.spells).1 in
    let first : have ≡ had = a.has ∙ sym b.has in
    let second : need ≡ needed = omega (arith, count, a.needs, b.needs) in
    ap (λ (n : ℕ). Short n need) first ∙ ap (Short had) second
one_reason image (Short have need) NoSegment a b = absurd (no_short image have need b.segments a b.super)
one_reason image (Short have need) (MissingSegment seq) a b = absurd (no_short image have need b.segments a b.is_open.super)
one_reason image (Short have need) (BadRecord block) a b = let is = bad_open image block.0 b in absurd (no_short image have need is.segments a is.is_open.super)
one_reason image NoSegment NoSuper a b = absurd (b 1 a.segments a.super.super)
one_reason image NoSegment (OldFormat found) a b = absurd (no_old image found a.segments b a.super.super)
one_reason image NoSegment (Short have need) a b = absurd (no_short image have need a.segments b a.super)
one_reason image NoSegment NoSegment a b = refl
one_reason image NoSegment (MissingSegment seq) a b = absurd (no_open image b.segments b.newest a b.is_open)
one_reason image NoSegment (BadRecord block) a b = let is = bad_open image block.0 b in absurd (no_open image is.segments is.newest a is.is_open)
one_reason image (MissingSegment seq) NoSuper a b = absurd (b 1 a.segments a.is_open.super.super)
one_reason image (MissingSegment seq) (OldFormat found) a b = absurd (no_old image found a.segments b a.is_open.super.super)
one_reason image (MissingSegment seq) (Short have need) a b = absurd (no_short image have need a.segments b a.is_open.super)
one_reason image (MissingSegment seq) NoSegment a b = absurd (no_open image a.segments a.newest b a.is_open)
one_reason image (MissingSegment seq) (MissingSegment other) a b = ap MissingSegment (same_missing image seq other a b)
one_reason image (MissingSegment seq) (BadRecord block) a b = absurd (missing_bad image seq block.0 a b)
one_reason image (BadRecord block) NoSuper a b = let is = bad_open image block.0 a in absurd (b 1 is.segments is.is_open.super.super)
one_reason image (BadRecord block) (OldFormat found) a b = let is = bad_open image block.0 a in absurd (no_old image found is.segments b is.is_open.super.super)
one_reason image (BadRecord block) (Short have need) a b = let is = bad_open image block.0 a in absurd (no_short image have need is.segments b is.is_open.super)
one_reason image (BadRecord block) NoSegment a b = let is = bad_open image block.0 a in absurd (no_open image is.segments is.newest b is.is_open)
one_reason image (BadRecord block) (MissingSegment seq) a b = absurd (missing_bad image seq block.0 b a)
one_reason image (BadRecord block) (BadRecord other) a b = ap (λ (n : ℕ). BadRecord (record { 0 = n })) (same_bad image block.0 other.0 a b)
