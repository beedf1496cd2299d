-- The table of operations, as a script's reader and these definitions have it.
use Rattle.std.specs.Prelude.{◌≡◌, ℕ, zero, suc, ◌-◌, ◌%◌, ◌≤◌, List, [], ◌∷◌, ◌++◌, length, replicate, slice_get, ◌==◌, if◌then◌else◌}
use Rattle.std.specs.Option.{option_map_or}
use Rattle.sea_script.specs.declared.table.Kind.{Kind}
use Rattle.sea_script.specs.declared.table.Kind.TheVariants.{Name, Bytes}
use Rattle.sea_script.specs.declared.table.Further.{Further}
use Rattle.sea_script.specs.declared.table.Further.TheVariants.{Nothing, Name as OneName, Names, Pairs}
use Rattle.sea_script.specs.declared.table.Verb.{Verb}
use Rattle.sea_script.specs.declared.table.Verb.TheVariants.{Touch, Write, Zero, Truncate, Remove, SetAttr, RmAttr, RmAttrs, OmapSetKeys, OmapRmKeys, OmapRmKeyRange, OmapClear, Read, Stat, GetAttr, GetAttrs, OmapGet, OmapList, List as ListNames}
use Rattle.sea_script.specs.declared.table.TheConstants.{TABLE}

-- where an operation stands in the table
abbrev pub place : Verb → ℕ
place Touch = 0
place Write = 1
place Zero = 2
place Truncate = 3
place Remove = 4
place SetAttr = 5
place RmAttr = 6
place RmAttrs = 7
place OmapSetKeys = 8
place OmapRmKeys = 9
place OmapRmKeyRange = 10
place OmapClear = 11
place Read = 12
place Stat = 13
place GetAttr = 14
place GetAttrs = 15
place OmapGet = 16
place OmapList = 17
place ListNames = 18

-- its word
abbrev pub word_of : Verb → List ℕ
word_of verb = option_map_or (λ row. row.0.now) (slice_get TABLE (place verb)) []

-- the kinds of the words that it always takes
abbrev pub first_kinds : Verb → List Kind
first_kinds verb = option_map_or (λ row. row.2.now) (slice_get TABLE (place verb)) []

-- what may stand behind these
abbrev pub further_of : Verb → Further
further_of verb = option_map_or (λ row. row.3) (slice_get TABLE (place verb)) Nothing

-- names, each with bytes behind it, so many words of them
abbrev pub alternate : ℕ → List Kind
alternate zero = []
alternate (suc zero) = Name ∷ []
alternate (suc (suc n)) = Name ∷ Bytes ∷ alternate n

-- whether so many words may stand there, and their kinds
abbrev pub MayFollow : Further → ℕ → Type 0
MayFollow Nothing n = n ≡ 0
MayFollow OneName n = n ≤ 1
MayFollow Names n = Unit {0}
MayFollow Pairs n = n % 2 ≡ 0

abbrev pub further_kinds : Further → ℕ → List Kind
further_kinds Nothing n = []
further_kinds OneName n = replicate n Name
further_kinds Names n = replicate n Name
further_kinds Pairs n = alternate n

-- the kind of the word at an index of them
abbrev pub further_kind : Further → ℕ → Kind
further_kind Pairs index = if index % 2 == 1 then Bytes else Name
further_kind _ index = Name

-- whether so many words may stand behind an operation's own, and their kinds
abbrev pub IsCount : Verb → ℕ → Type 0
IsCount verb n = (length (first_kinds verb) ≤ n)
    × MayFollow (further_of verb) (n - length (first_kinds verb))

abbrev pub kinds_for : Verb → ℕ → List Kind
kinds_for verb n = first_kinds verb ++ further_kinds (further_of verb) (n - length (first_kinds verb))
