-- Segments read one after the other, and how they go on from one another.
use Rattle.std.proofs.Common.{◌≡◌, ℕ, zero, suc, ◌+◌, ◌-◌, ◌<◌, ◌≤◌, List, [], ◌∷◌, ◌++◌, length, get_or, take, drop, refl, sym, ap, ◌∙◌, subst, inl, inr, arith, append_assoc}
use Rattle.std.proofs.lemmas.Bool.{cases_lt}
use Rattle.std.proofs.lemmas.List.{take-append-drop, take_more}
use Rattle.sea_segment.specs.declared.header.Header.{Header}
use Rattle.sea_trail.specs.declared.link.Link.{Link}
use Rattle.sea_trail.specs.declared.trail.Part.{Part}
use Rattle.sea_trail.specs.Refusals.{IsBreak}
use Rattle.sea_trail.specs.Trail.{AreParts, AreLinked, FollowOn, Follows, HasChain, IsNumbered}

-- one segment more
pub AreParts-more : (image : List ℕ) (segments from seq : ℕ) (ps : List Part) (p : Part) → from + length ps ≡ seq → AreParts image segments from ps → IsNumbered image segments seq p.header → HasChain image p → AreParts image segments from (ps ++ p ∷ [])
AreParts-more image segments from seq [] p e parts numbered chain =
    let at : seq ≡ from = omega arith in
    (subst (λ (n : ℕ). IsNumbered image segments n p.header) at numbered, chain, tt)
AreParts-more image segments from seq (q ∷ qs) p e parts numbered chain =
    (parts.0, parts.1, AreParts-more image segments (from + 1) seq qs p (omega arith) parts.2 numbered chain)

-- each number among them has a header
pub AreParts-at : (image : List ℕ) (segments from : ℕ) (ps : List Part) → AreParts image segments from ps → (q : ℕ) → from ≤ q → q < from + length ps → (h : Header) × IsNumbered image segments q h
AreParts-at image segments from [] parts q low high = absurd (omega arith)
AreParts-at image segments from (p ∷ ps) parts q low high =
    elim (cases_lt from q) [
      | inl lt ↦ AreParts-at image segments (from + 1) ps parts.2 q (omega arith) (omega arith)
      | inr le ↦ (let at : from ≡ q = omega arith in (p.header, subst (λ (n : ℕ). IsNumbered image segments n p.header) at parts.0))
    ]

-- one more goes on from the last
FollowOn-more : (link : Link) (ps : List Part) (p q : Part) → FollowOn link (ps ++ p ∷ []) → Follows p.last q.header → FollowOn link (ps ++ p ∷ [] ++ q ∷ [])
FollowOn-more link [] p q on follows = (on.0, (follows, tt))
FollowOn-more link (x ∷ xs) p q on follows = (on.0, FollowOn-more x.last xs p q on.1 follows)

pub AreLinked-more : (ps : List Part) (p q : Part) → AreLinked (ps ++ p ∷ []) → Follows p.last q.header → AreLinked (ps ++ p ∷ [] ++ q ∷ [])
AreLinked-more [] p q linked follows = (follows, tt)
AreLinked-more (x ∷ xs) p q linked follows = FollowOn-more x.last xs p q linked follows

-- ---- a search for a break

pub linked_first : (ps : List Part) → AreLinked (take 1 ps)
linked_first [] = tt
linked_first (p ∷ ps) = tt

-- two segments next to each other
take_two : (ps : List Part) (j i : ℕ) (p : Part) → i ≡ j + 1 → i < length ps → p ≡ get_or ps j p → take i ps ≡ take j ps ++ p ∷ []
take_two ps j i p next lt is_p =
    ap (λ (n : ℕ). take n ps) next ∙ take_more ps j p (omega arith) ∙ ap (λ (x : Part). take j ps ++ x ∷ []) (sym is_p)

pub linked_more : (ps : List Part) (j i : ℕ) (p q : Part) → i ≡ j + 1 → i < length ps → p ≡ get_or ps j p → q ≡ get_or ps i q → AreLinked (take i ps) → Follows p.last q.header → AreLinked (take (i + 1) ps)
linked_more ps j i p q next lt is_p is_q linked follows =
    let two = take_two ps j i p next lt is_p in
    let three : take (i + 1) ps ≡ take j ps ++ p ∷ [] ++ q ∷ [] = take_more ps i q lt ∙ ap (λ (x : Part). take i ps ++ x ∷ []) (sym is_q) ∙ ap (λ (xs : List Part). xs ++ q ∷ []) two in
    subst AreLinked (sym three) (AreLinked-more (take j ps) p q (subst AreLinked two linked) follows)

pub break_at : (ps : List Part) (j i block : ℕ) (p q : Part) → i ≡ j + 1 → i < length ps → p ≡ get_or ps j p → q ≡ get_or ps i q → AreLinked (take i ps) → (Follows p.last q.header → ⊥) → block ≡ p.end.0 → IsBreak ps block
break_at ps j i block p q next lt is_p is_q linked broken at =
    let two = take_two ps j i p next lt is_p in
    let three : take (i + 1) ps ≡ take j ps ++ p ∷ [] ++ q ∷ [] = take_more ps i q lt ∙ ap (λ (x : Part). take i ps ++ x ∷ []) (sym is_q) ∙ ap (λ (xs : List Part). xs ++ q ∷ []) two in
    let back = drop (i + 1) ps in
    record {
      front = take j ps;
      part = p;
      next = q;
      back = back;
      cut = sym (take-append-drop (i + 1) ps) ∙ ap (λ (xs : List Part). xs ++ back) three ∙ append_assoc (take j ps ++ p ∷ []) (q ∷ []) back ∙ append_assoc (take j ps) (p ∷ []) (q ∷ back);
      linked = subst AreLinked two linked;
      broken = broken;
      at = at;
    }

same_at : (ps : List Part) (i : ℕ) (d e : Part) → i < length ps → get_or ps i d ≡ get_or ps i e
same_at [] i d e lt = absurd (omega arith)
same_at (p ∷ ps) zero d e lt = refl
same_at (p ∷ ps) (suc i) d e lt = same_at ps i d e (omega arith)

pub links_on : (ps : List Part) (i : ℕ) (p q : Part) → 1 ≤ i → i < length ps → p ≡ get_or ps (i - 1) p → q ≡ get_or ps i q → AreLinked (take i ps) → Follows (get_or ps (i - 1) p).last (get_or ps i q).header → AreLinked (take (i + 1) ps)
links_on ps i p q some lt is_p is_q linked follows =
    linked_more ps (i - 1) i p q (omega arith) lt is_p is_q linked
    (subst (λ (x : Part). Follows x.last q.header) (sym is_p) (subst (λ (x : Part). Follows (get_or ps (i - 1) p).last x.header) (sym is_q) follows))

pub breaks_here : (ps : List Part) (i : ℕ) (p q f : Part) → 1 ≤ i → i < length ps → p ≡ get_or ps (i - 1) p → q ≡ get_or ps i q → AreLinked (take i ps) → (Follows (get_or ps (i - 1) p).last (get_or ps i q).header → ⊥) → IsBreak ps (get_or ps (i - 1) f).end.0
breaks_here ps i p q f some lt is_p is_q linked broken =
    break_at ps (i - 1) i (get_or ps (i - 1) f).end.0 p q (omega arith) lt is_p is_q linked
    (λ follows. broken (subst (λ (x : Part). Follows x.last (get_or ps i q).header) is_p (subst (λ (x : Part). Follows p.last x.header) is_q follows)))
    (ap (λ (x : Part). x.end.0) (same_at ps (i - 1) f p (omega arith) ∙ sym is_p))
