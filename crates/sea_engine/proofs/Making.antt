-- What records make of objects.
use Rattle.std.proofs.Common.{◌≡◌, ◌≢◌, ℕ, zero, suc, ◌+◌, ◌<◌, ◌≤◌, inl, inr, List, [], ◌∷◌, ◌++◌, length, take, drop, get_or, refl, sym, ap, ◌∙◌, subst, arith}
use Rattle.std.specs.FinMap as map
use Rattle.sea_object.specs.Objects.{ObjectMap}
use Rattle.sea_record.specs.declared.record.Kind.{Kind}
use Rattle.sea_record.specs.declared.record.Kind.TheVariants.{Mount, Client, Shift, Nodes, Plain}
use Rattle.sea_record.specs.declared.record.Record.{Record}
use Rattle.sea_engine.specs.Opens.{Change, Lays, Makes, AreRising}

-- a record of another kind changes nothing
pub lays_nothing : (lays : Change) (kind : Kind) (bytes : List ℕ) (objects : ObjectMap) → kind ≢ Plain → Lays lays kind bytes objects objects
lays_nothing lays Mount bytes objects other = refl
lays_nothing lays Client bytes objects other = refl
lays_nothing lays Shift bytes objects other = refl
lays_nothing lays Nodes bytes objects other = refl
lays_nothing lays Plain bytes objects other = absurd (other refl)

pub lays_plain : (lays : Change) (kind : Kind) (bytes : List ℕ) (old new : ObjectMap) → kind ≡ Plain → lays bytes old new → Lays lays kind bytes old new
lays_plain lays kind bytes old new is laid = subst (λ k. Lays lays k bytes old new) (sym is) laid

-- records behind others
pub makes_both : (lays : Change) (xs ys : List Record) (a b c : ObjectMap) → Makes lays xs a b → Makes lays ys b c → Makes lays (xs ++ ys) a c
makes_both lays [] ys a b c first then = subst (λ o. Makes lays ys o c) first then
makes_both lays (x ∷ xs) ys a b c first then = (first.0, first.1, makes_both lays xs ys first.0 b c first.2 then)

pub makes_split : (lays : Change) (xs ys : List Record) (a c : ObjectMap) → Makes lays (xs ++ ys) a c → (b : ObjectMap) × Makes lays xs a b × Makes lays ys b c
makes_split lays [] ys a c made = (a, refl, made)
makes_split lays (x ∷ xs) ys a c made =
    let rest = makes_split lays xs ys made.0 c made.2 in
    (rest.0, (made.0, made.1, rest.1), rest.2)

-- records make one map of another
lays_one : (lays : Change) → ((bytes : List ℕ) (objects first second : ObjectMap) → lays bytes objects first → lays bytes objects second → first ≡ second) → (kind : Kind) (bytes : List ℕ) (a b c : ObjectMap) → Lays lays kind bytes a b → Lays lays kind bytes a c → b ≡ c
lays_one lays one Mount bytes a b c first second = first ∙ sym second
lays_one lays one Client bytes a b c first second = first ∙ sym second
lays_one lays one Shift bytes a b c first second = first ∙ sym second
lays_one lays one Nodes bytes a b c first second = first ∙ sym second
lays_one lays one Plain bytes a b c first second = one bytes a b c first second

pub makes_one : (lays : Change) → ((bytes : List ℕ) (objects first second : ObjectMap) → lays bytes objects first → lays bytes objects second → first ≡ second) → (rs : List Record) (a b c : ObjectMap) → Makes lays rs a b → Makes lays rs a c → b ≡ c
makes_one lays one [] a b c first second = first ∙ sym second
makes_one lays one (r ∷ rs) a b c first second =
    let same = lays_one lays one r.body.kind r.body.plain a first.0 second.0 first.1 second.1 in
    makes_one lays one rs second.0 b c (subst (λ o. Makes lays rs o b) same first.2) second.2

-- ---- numbers

pub rising_from : (low high : ℕ) (rs : List Record) → low ≤ high → AreRising high rs → AreRising low rs
rising_from low high [] le rising = tt
rising_from low high (r ∷ rs) le rising = (let above = rising.0 in omega (arith, le, above), rising.1)
