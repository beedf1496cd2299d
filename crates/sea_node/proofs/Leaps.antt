-- What a leap over entries of the same lengths passes, and what a look-up has when it goes on behind one.
use Rattle.std.proofs.Common.{◌≡◌, ℕ, ◌+◌, ◌-◌, ◌<◌, ◌≤◌, ◌^◌, List, [], ◌∷◌, ◌++◌, length, get_or, take, drop, Some, None, false, sym, ap, ◌∙◌, arith}
use Rattle.std.specs.Prelude.{slice_range}
use Rattle.std.specs.Option.{is_none}
use Rattle.std.proofs.lemmas.List.{take-take}
use Rattle.sea_base.specs.Field.{big_endian}
use Rattle.sea_base.proofs.Slices.{length-slice}
use Rattle.sea_base.proofs.Words.{words_apart}
use Rattle.sea_node.specs.declared.lookup.Passed.{Passed}
use Rattle.sea_node.specs.declared.reading.Span.{Span}
use Rattle.sea_node.specs.Entries.{Entry, IsBelow, IsNotAbove}
use Rattle.sea_node.specs.Reading.{IsEntry, IsSpan, StandsAt, SpansAt, key_in, entry_in}
use Rattle.sea_node.specs.Lookup.{Passes, HasValueOf, IsBegun, GoesOn}
use Rattle.sea_node.specs.Leap.{moved_to, HasWordBelow, Leaps, Stays, Goes}
use Rattle.sea_node.proofs.Keys.{IsNotAbove-below}
use Rattle.sea_node.proofs.ReadNodes.{entry_read}
use Rattle.sea_node.proofs.Lookups.{entry_ends, ends_more, finds_found, finds_still}
use Rattle.sea_node.proofs.ReadLookups.{rises_on, begun_more, passes_more}

-- ---- a leap

-- what holds at the first entry, and goes on with each, holds at the last
pub leap_on : (bytes : List ℕ) (level below : ℕ) (first last : Span) (P : Span → Type 0) → P first → ((here next : Span) → P here → GoesOn bytes level here next → HasWordBelow (key_in bytes next) below → P next) → Leaps bytes level below first last → P last
leap_on bytes level below first last P start on Stays = start
leap_on bytes level below first last P start on (Goes here next leaps goes word) = on here next (leap_on bytes level below first here P start on leaps) goes word

pub moved_self : (bytes : List ℕ) (span : Span) → IsSpan bytes span → moved_to span span.end ≡ span
moved_self bytes span is =
    let key : span.end - (span.end - span.key_at) ≡ span.key_at = omega (arith, is.key_first, is.value_then) in
    let value : span.end - (span.end - span.value_at) ≡ span.value_at = omega (arith, is.value_then) in
    ap (λ (k : ℕ). record { key_at = k; value_at = span.end - (span.end - span.value_at); end = span.end }) key ∙ ap (λ (v : ℕ). record { key_at = span.key_at; value_at = v; end = span.end }) value

-- the first word of a key
pub word_in : (bytes : List ℕ) (span : Span) (word : ℕ) → 8 ≤ span.value_at - span.key_at → slice_range bytes span.key_at (span.key_at + 8) ≡ big_endian 8 word → take 8 (key_in bytes span) ≡ big_endian 8 word
word_in bytes span word long is =
    let eight : 8 ≡ span.key_at + 8 - span.key_at = omega arith in
    take-take 8 (span.value_at - span.key_at) (drop span.key_at bytes) long ∙ ap (λ (n : ℕ). take n (drop span.key_at bytes)) eight ∙ is

-- an entry with the same lengths stands at a place
pub like_spans : (bytes : List ℕ) → length bytes ≡ 4096 → (first : Span) → IsSpan bytes first → (at value_len : ℕ) → at + (3 + (first.end - first.key_at)) ≤ 4096 → get_or bytes at 0 ≡ first.value_at - first.key_at → slice_range bytes (at + 1) (at + 1 + 2) ≡ big_endian 2 value_len
    → value_len ≡ first.end - first.value_at → SpansAt bytes at (moved_to first (at + (3 + (first.end - first.key_at))))
like_spans bytes len first is at value_len fits key_is value_is same =
    let end = at + (3 + (first.end - first.key_at)) in
    let key_at = end - (first.end - first.key_at) in
    let value_at = end - (first.end - first.value_at) in
    let n = first.value_at - first.key_at in
    let m = first.end - first.value_at in
    let order = is.key_first in
    let then = is.value_then in
    let front : key_at ≡ at + 3 = omega (arith, order, then) in
    let middle : value_at ≡ at + 3 + n = omega (arith, order, then) in
    let key_then : key_at ≤ value_at = omega (arith, order, then, front, middle) in
    let value_then : value_at ≤ end = omega arith in
    let entry : Entry = (slice_range bytes key_at value_at, slice_range bytes value_at end) in
    let key_len : length entry.0 ≡ n = length-slice bytes key_at value_at key_then (omega (arith, fits, len, value_then)) ∙ omega (arith, front, middle) in
    let own_len : length entry.1 ≡ m = length-slice bytes value_at end value_then (omega (arith, fits, len)) ∙ omega (arith, order, then) in
    let first_key : length (key_in bytes first) ≡ n = length-slice bytes first.key_at first.value_at order (omega (arith, then, is.within, len)) in
    let first_value : length (entry_in bytes first).1 ≡ m = length-slice bytes first.value_at first.end then (omega (arith, is.within, len)) in
    let entry_is : IsEntry entry = ((omega (arith, key_len, first_key, is.entry.0.0), omega (arith, key_len, first_key, is.entry.0.1)), omega (arith, own_len, first_value, is.entry.1)) in
    let stands : StandsAt bytes at entry end =
    entry_read bytes at end entry len (omega (arith, fits)) (omega (arith, key_len, own_len, order, then)) fits entry_is
    (key_is ∙ sym key_len)
    (value_is ∙ ap (big_endian 2) (same ∙ sym own_len))
    (ap (λ (k : ℕ). slice_range bytes k value_at) front ∙ ap (slice_range bytes (at + 3)) (middle ∙ ap (λ (k : ℕ). at + 3 + k) (sym key_len)))
    (ap (λ (v : ℕ). slice_range bytes v end) (middle ∙ ap (λ (k : ℕ). at + 3 + k) (sym key_len))) in
    (record { key_first = key_then; value_then = value_then; within = fits; entry = entry_is }, stands)

-- one entry more with the same lengths
module _ (bytes : List ℕ) (len : length bytes ≡ 4096) (first : Span) (is : IsSpan bytes first) (end : ℕ) (after : first.end ≤ end) where
  pub like_value : (level : ℕ) → HasValueOf level (entry_in bytes first) → IsSpan bytes (moved_to first (end + (3 + (first.end - first.key_at)))) → HasValueOf level (entry_in bytes (moved_to first (end + (3 + (first.end - first.key_at)))))
  like_value level value spans = λ above.
      let next = moved_to first (end + (3 + (first.end - first.key_at))) in
      length-slice bytes next.value_at next.end spans.value_then (omega (arith, spans.within, len)) ∙ omega (arith, is.value_then, is.key_first, value above, length-slice bytes first.value_at first.end is.value_then (omega (arith, is.within, len)))

  pub like_goes : (level word its : ℕ) → word < its → its < 2 ^ 64 → take 8 (key_in bytes (moved_to first end)) ≡ big_endian 8 word → take 8 (key_in bytes (moved_to first (end + (3 + (first.end - first.key_at))))) ≡ big_endian 8 its
      → HasValueOf level (entry_in bytes first) → SpansAt bytes end (moved_to first (end + (3 + (first.end - first.key_at)))) → GoesOn bytes level (moved_to first end) (moved_to first (end + (3 + (first.end - first.key_at))))
  like_goes level word its rises low here there value spans =
      let apart = words_apart word its (key_in bytes (moved_to first end)) (key_in bytes (moved_to first (end + (3 + (first.end - first.key_at))))) (omega (arith, rises, low)) (omega (arith, low)) here there (λ same. omega (arith, rises, same)) in
      ((spans, like_value level value spans.0), apart.0 rises)

-- ---- a look-up up to the key

-- It has come to an entry that is not above the key.
pub record Seeks (bytes : List ℕ) (level : ℕ) (key : List ℕ) (first last : Span) : Type 0 where
  pub value : HasValueOf level (entry_in bytes last)
  pub passed : (entries : List Entry) × IsBegun bytes level last.end entries × Passes bytes key entries (record { first = first; last = last; found = Some last; next = None })
  pub front : 32 ≤ last.end
  pub span : IsSpan bytes last

pub seeks_on : (bytes : List ℕ) → length bytes ≡ 4096 → (level : ℕ) (key : List ℕ) (first last entry : Span) → Seeks bytes level key first last → GoesOn bytes level last entry → IsNotAbove (key_in bytes entry) key → Seeks bytes level key first entry
seeks_on bytes len level key first last entry seeks on le =
    let was = seeks.passed in
    let so_far : Passed = record { first = first; last = last; found = Some last; next = None } in
    let within = seeks.span.within in
    let e = entry_in bytes entry in
    record {
      value = on.0.1;
      passed = (
        was.0 ++ e ∷ [],
        begun_more bytes len level was.0 key so_far was.1 was.2 within entry on,
        passes_more bytes len level was.0 key so_far was.1 was.2 within entry on (Some entry) None (finds_found bytes key was.0 entry le (ends_more bytes was.0 e last.end entry.end len within was.2.end_is on.0.0.1)),
      );
      front = omega (arith, entry_ends bytes e last.end entry.end len within on.0.0.1, seeks.front);
      span = on.0.0.0;
    }

pub seeks_far : (bytes : List ℕ) → length bytes ≡ 4096 → (level below : ℕ) (key : List ℕ) (first from to : Span) → ((other : List ℕ) → HasWordBelow other below → IsBelow other key) → Seeks bytes level key first from → Leaps bytes level below from to → Seeks bytes level key first to
seeks_far bytes len level below key first from to lower seeks leaps =
    leap_on bytes level below from to (Seeks bytes level key first) seeks (λ here next before goes word. seeks_on bytes len level key first here next before goes (IsNotAbove-below (key_in bytes next) key (lower (key_in bytes next) word))) leaps

-- ---- and on to the end

-- What was found up to an entry above the key stays.
pub record GoesFar (bytes : List ℕ) (level : ℕ) (self : Passed) (last : Span) : Type 0 where
  pub passed : (key : List ℕ) (entries : List Entry) → IsBegun bytes level self.last.end entries → Passes bytes key entries self → (all : List Entry) × IsBegun bytes level last.end all × Passes bytes key all (record self { last = last })
  pub front : 32 ≤ last.end
  pub span : IsSpan bytes last

pub goes_on : (bytes : List ℕ) → length bytes ≡ 4096 → (level : ℕ) (self : Passed) (last entry : Span) → is_none self.next ≡ false → GoesFar bytes level self last → GoesOn bytes level last entry → GoesFar bytes level self entry
goes_on bytes len level self last entry some far on =
    let so_far : Passed = record self { last = last } in
    let e = entry_in bytes entry in
    let within = far.span.within in
    record {
      passed = λ key es begun passes.
          let was = far.passed key es begun passes in (
            was.0 ++ e ∷ [],
            begun_more bytes len level was.0 key so_far was.1 was.2 within entry on,
            passes_more bytes len level was.0 key so_far was.1 was.2 within entry on self.found self.next
                (finds_still bytes key was.0 e self.found self.next some (rises_on bytes len level was.0 key so_far was.1 was.2 within entry on) was.2.finds),
          );
      front = omega (arith, entry_ends bytes e last.end entry.end len within on.0.0.1, far.front);
      span = on.0.0.0;
    }

pub goes_far : (bytes : List ℕ) → length bytes ≡ 4096 → (level below : ℕ) (self : Passed) (from to : Span) → is_none self.next ≡ false → GoesFar bytes level self from → Leaps bytes level below from to → GoesFar bytes level self to
goes_far bytes len level below self from to some far leaps =
    leap_on bytes level below from to (GoesFar bytes level self) far (λ here next before goes word. goes_on bytes len level self here next some before goes) leaps
