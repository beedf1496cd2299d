-- What the entries of a node tell of a key, taken one after the other.
use Rattle.std.proofs.Common.{◌≡◌, ◌≢◌, ℕ, ◌≤◌, List, [], ◌∷◌, ◌++◌, length, drop, ◌+◌, Option, Some, None, false, refl, sym, ap, subst, ◌∙◌, arith, append_assoc, length-append, length-drop}
use Rattle.std.specs.List.{AllByRecursion}
use Rattle.std.specs.Option.{is_none}
use Rattle.std.proofs.lemmas.Bool.{true≢false}
use Rattle.sea_node.specs.Entries.{Entry, IsBelow, IsNotAbove, IsRising, entry_bytes, entry_size, size}
use Rattle.sea_node.specs.declared.reading.Span.{Span}
use Rattle.sea_node.specs.Reading.{StandsAt, key_in, entry_in}
use Rattle.sea_node.specs.Lookup.{front_key, EndsAt, AreAbove, Finds, FindsAt, keyed, entered}
use Rattle.sea_node.proofs.Nodes.{size-append, size-one, length-entry_bytes}
use Rattle.sea_node.proofs.Keys.{IsBelow-trans, not_below_itself, IsBelowAll, AreBelow, IsBelowAll-append, IsRising-one, IsRising-head, IsRising-tail, IsRising-append, IsRising-split}

all_behind : (P : Entry → Type 0) (before rest : List Entry) → AllByRecursion P (before ++ rest) → AllByRecursion P rest
all_behind P [] rest all = all
all_behind P (b ∷ before) rest all = all_behind P before rest all.1

-- ---- one entry more

below_more : (before : List Entry) (last : Entry) (e : Entry) → IsRising (before ++ last ∷ []) → IsBelow last.0 e.0 → AreBelow (before ++ last ∷ []) (e ∷ [])
below_more [] last e rising below = ((below, tt), tt)
below_more (b ∷ before) last e rising below =
    let first = all_behind (λ (d : Entry). IsBelow b.0 d.0) before (last ∷ []) (IsRising-head b (before ++ last ∷ []) rising) in
    ((IsBelow-trans b.0 last.0 e.0 first.0 below, tt), below_more before last e (IsRising-tail b (before ++ last ∷ []) rising) below)

pub rising_more : (es : List Entry) (e : Entry) (last : List ℕ) → IsRising es → EndsAt es (Some last) → IsBelow last e.0 → IsRising (es ++ e ∷ [])
rising_more es e last rising (before, value, split) behind =
    let rises = subst IsRising split rising in
    subst (λ (fs : List Entry). IsRising (fs ++ e ∷ [])) (sym split) (IsRising-append (before ++ (last, value) ∷ []) (e ∷ []) rises (IsRising-one e) (below_more before (last, value) e rises behind))

pub behind_last : (es : List Entry) (e : Entry) (last : List ℕ) → EndsAt es (Some last) → IsRising (es ++ e ∷ []) → IsBelow last e.0
behind_last es e last (before, value, split) rising =
    let whole = subst (λ (fs : List Entry). IsRising (fs ++ e ∷ [])) split rising in
    let below = (IsRising-split (before ++ (last, value) ∷ []) (e ∷ []) whole).2 in
    (all_behind (λ (d : Entry). IsBelowAll d.0 (e ∷ [])) before ((last, value) ∷ []) below).0.0

-- the first key stays, where one entry more comes
pub first_still : (es : List Entry) (e : Entry) (first : List ℕ) → Some first ≡ front_key es → Some first ≡ front_key (es ++ e ∷ [])
first_still [] e first is = absurd (cc)
first_still (x ∷ es) e first is = is

-- where an entry ends, and one entry more
pub entry_ends : (bytes : List ℕ) (e : Entry) (at end : ℕ) → length bytes ≡ 4096 → at ≤ 4096 → StandsAt bytes at e end → end ≡ at + entry_size e
entry_ends bytes e at end len within stands =
    omega (arith, ap length stands.1.1, length-append (entry_bytes e) (drop end bytes), length-entry_bytes e, length-drop at bytes, length-drop end bytes)

pub ends_more : (bytes : List ℕ) (es : List Entry) (e : Entry) (at end : ℕ) → length bytes ≡ 4096 → at ≤ 4096 → at ≡ 32 + size es → StandsAt bytes at e end → end ≡ 32 + size (es ++ e ∷ [])
ends_more bytes es e at end len within is stands = omega (arith, entry_ends bytes e at end len within stands, size-append es (e ∷ []), size-one e)

no_first : (es : List Entry) → None ≡ front_key es → es ≡ []
no_first [] none = refl
no_first (x ∷ es) none = absurd (cc)

pub finds_found : (bytes key : List ℕ) (es : List Entry) (span : Span) → IsNotAbove (key_in bytes span) key → span.end ≡ 32 + size (es ++ entry_in bytes span ∷ []) → FindsAt bytes key (es ++ entry_in bytes span ∷ []) (Some span) None
finds_found bytes key es span le ends = (es, [], refl, ends, le, tt, refl)

pub finds_next : (bytes key : List ℕ) (es : List Entry) (found : Option Span) (span : Span) → FindsAt bytes key es found None → IsBelow key (key_in bytes span) → FindsAt bytes key (es ++ entry_in bytes span ∷ []) found (Some span)
finds_next bytes key es None span (above, none) below =
    subst (λ (fs : List Entry). FindsAt bytes key (fs ++ entry_in bytes span ∷ []) None (Some span)) (sym (no_first es none)) ((below, tt), refl)
finds_next bytes key es (Some x) span (before, after, split, ends, le, above, none) below =
    let e = entry_in bytes span in
    let whole : es ++ e ∷ [] ≡ before ++ entry_in bytes x ∷ e ∷ [] =
    ap (λ (fs : List Entry). fs ++ e ∷ []) (split ∙ ap (λ (fs : List Entry). before ++ entry_in bytes x ∷ fs) (no_first after none)) ∙ append_assoc before (entry_in bytes x ∷ []) (e ∷ []) in
    (before, e ∷ [], whole, ends, le, (below, tt), refl)

above_more : (key : List ℕ) (es : List Entry) (e : Entry) (next : List ℕ) → AreBelow es (e ∷ []) → AreAbove key es → Some next ≡ front_key es → AreAbove key (es ++ e ∷ []) × (Some next ≡ front_key (es ++ e ∷ []))
above_more key [] e next below above is = absurd (cc)
above_more key (x ∷ es) e next below above is =
    (IsBelowAll-append key (x ∷ es) (e ∷ []) above (IsBelow-trans key x.0 e.0 above.0 below.0.0, tt), is)

finds_kept : (bytes key : List ℕ) (es : List Entry) (e : Entry) (found : Option Span) (next : Span) → IsRising (es ++ e ∷ []) → FindsAt bytes key es found (Some next) → FindsAt bytes key (es ++ e ∷ []) found (Some next)
finds_kept bytes key es e None next rising (above, is) = above_more key es e (key_in bytes next) (IsRising-split es (e ∷ []) rising).2 above is
finds_kept bytes key es e (Some x) next rising (before, after, split, ends, le, above, is) =
    let below = subst (λ (fs : List Entry). AreBelow fs (e ∷ [])) split (IsRising-split es (e ∷ []) rising).2 in
    let more = above_more key after e (key_in bytes next) (all_behind (λ (d : Entry). IsBelowAll d.0 (e ∷ [])) (before ++ entry_in bytes x ∷ []) after (subst (λ (fs : List Entry). AreBelow fs (e ∷ [])) (sym (append_assoc before (entry_in bytes x ∷ []) after)) below)) above is in
    (before, after ++ e ∷ [], ap (λ (fs : List Entry). fs ++ e ∷ []) split ∙ append_assoc before (entry_in bytes x ∷ after) (e ∷ []), ends, le, more.0, more.1)

-- once a key above was met, what is found stays
pub finds_still : (bytes key : List ℕ) (es : List Entry) (e : Entry) (found next : Option Span) → is_none next ≡ false → IsRising (es ++ e ∷ []) → FindsAt bytes key es found next → FindsAt bytes key (es ++ e ∷ []) found next
finds_still bytes key es e found None some rising finds = absurd (true≢false some)
finds_still bytes key es e found (Some next) some rising finds = finds_kept bytes key es e found next rising finds

-- what is found, without where it stands
pub finds_told : (bytes key : List ℕ) (es : List Entry) (found next : Option Span) → FindsAt bytes key es found next → Finds key es (entered bytes found) (keyed bytes next)
finds_told bytes key es None next finds = finds
finds_told bytes key es (Some x) next (before, after, split, ends, le, above, is) = (before, after, split, le, above, is)

-- ---- what entries for a node tell

-- the first key is the last of one entry alone
pub one_alone : (es : List Entry) (key : List ℕ) → IsRising es → Some key ≡ front_key es → EndsAt es (Some key) → 2 ≤ length es → ⊥
one_alone es key rising first ([], value, split) several = omega (arith, ap length split)
one_alone es key rising first (b ∷ before, value, split) several =
    let below = all_behind (λ (d : Entry). IsBelow b.0 d.0) before ((key, value) ∷ []) (IsRising-head b (before ++ (key, value) ∷ []) (subst IsRising split rising)) in
    let same : key ≡ b.0 = (let e = first ∙ ap front_key split in cc) in
    not_below_itself key (subst (λ (k : List ℕ). IsBelow k key) (sym same) below.0)

pub several : (es : List Entry) (first last : List ℕ) → Some first ≡ front_key es → EndsAt es (Some last) → first ≢ last → 2 ≤ length es
several [] first last is ends other = absurd (cc)
several (x ∷ []) first last is ([], value, split) other = absurd (other (let e : Some first ≡ Some last = is ∙ ap front_key split in cc))
several (x ∷ []) first last is (b ∷ before, value, split) other = absurd (omega (arith, ap length split, length_push before (last, value)))
  where
    length_push : (es : List Entry) (e : Entry) → 1 ≤ length (es ++ e ∷ [])
    length_push [] e = omega arith
    length_push (f ∷ es) e = omega arith
several (x ∷ y ∷ es) first last is ends other = omega arith

pub some_there : (es : List Entry) (first : List ℕ) → Some first ≡ front_key es → 1 ≤ length es
some_there [] first is = absurd (cc)
some_there (x ∷ es) first is = omega arith
