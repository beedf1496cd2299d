use Rattle.std.proofs.Common.{◌≡◌, ℕ, ◌+◌, ◌-◌, ◌<◌, min, List, [], ◌++◌, length, take, drop, sym, ◌∙◌, ap, arith}
use Rattle.std.proofs.lemmas.List.{take_at, take-append-drop, drop-drop, nil_from_length, length-take-le, take_rest}
use Rattle.sea_device.proofs.sources.SteadySource.give.Goals as goal

-- the bytes handed over, and those behind them
handed : (taken count : ℕ) (bytes put behind : List ℕ) → count ≡ length put → put ≡ take count (drop taken bytes) → drop taken bytes ≡ take count (put ++ behind) ++ drop (taken + count) bytes
handed taken count bytes put behind size is =
    let rest = drop taken bytes in
    sym (take-append-drop count rest) ∙ ap (λ (b : List ℕ). take count rest ++ b) (drop-drop count taken bytes) ∙ ap (λ (b : List ℕ). b ++ drop (taken + count) bytes) (sym is ∙ sym (take_at put behind count (sym size)))

-- they are none at the end alone
none_left : (count : ℕ) (into rest : List ℕ) → 0 < length into → count ≡ min (length into) (length rest) → count ≡ 0 → rest ≡ []
none_left count into rest some is none = nil_from_length rest (omega arith)

pub returns-clause-bytes : goal.returns-clause-bytes
returns-clause-bytes c =
    let self = c.args.self.now in
    let rest : take (length c.bytes.result.now - self.taken) (drop self.taken c.bytes.result.now) ≡ drop self.taken self.bytes =
    take_rest c.bytes.result.now self.taken ∙ ap (drop self.taken) c.bytes.ensures in
    let count = rw rest at c.min-count.ensures in
    let put = rw rest at c.copy_from_slice.ensures.after in
    let size : c.min-count.result ≡ length c.copy_from_slice.new.self = sym (ap length put ∙ length-take-le c.min-count.result (drop self.taken self.bytes) (omega arith)) in
    (handed self.taken c.min-count.result self.bytes c.copy_from_slice.new.self _ size put, none_left c.min-count.result c.args.into.now (drop self.taken self.bytes) c.requires count)
