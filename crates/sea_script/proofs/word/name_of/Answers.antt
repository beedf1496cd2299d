use Rattle.std.proofs.Common.{◌≡◌, refl, subst, sym, ◌∙◌}
use Rattle.sea_script.proofs.Spelling.{bytes_read, shorter, name_stuck, name_whole, one_name, some_left, none_left}
use Rattle.sea_base.specs.Name.{IsName}
use Rattle.sea_script.specs.Word.{byte_text}
use Rattle.sea_script.proofs.word.name_of.Goals as goal

pub loop-rest-smaller : goal.loop-rest-smaller
loop-rest-smaller c = shorter byte_text bytes_read c.loop-rest.rest.now c.in-Some.byte c.in-Some.others.now c.in-Some.ensures.1

pub returns-in_default : goal.returns-in_default
returns-in_default c =
    (λ name fits. name_stuck c.args.word.now c.loop-rest.bytes.items c.loop-rest.rest.now name c.loop-rest.invariant.bytes fits.1 c.loop-rest.invariant.read fits.2 c.in_default.ensures (some_left c.loop-rest.rest.now c.loop-rest-test.ensures), refl)

pub returns-in-Some-from_data : goal.returns-in-Some-from_data
returns-in-Some-from_data c =
    let made = c.in-Some-from_data.ensures.some in
    let is : c.in-Some-from_data.name ≡ c.loop-rest.bytes.items = made.0 ∙ c.in_ok-from_vec.ensures in
    let whole = name_whole c.args.word.now c.loop-rest.bytes.items c.loop-rest.rest.now c.loop-rest.invariant.read (none_left c.loop-rest.rest.now c.loop-rest-test.ensures) in
    (made.1, rw is (c.loop-rest.invariant.bytes), rw is whole)

pub returns-in-None : goal.returns-in-None
returns-in-None c = (
  λ name fits.
      let whole = name_whole c.args.word.now c.loop-rest.bytes.items c.loop-rest.rest.now c.loop-rest.invariant.read (none_left c.loop-rest.rest.now c.loop-rest-test.ensures) in
      let is = one_name c.args.word.now name c.loop-rest.bytes.items fits.1 c.loop-rest.invariant.bytes fits.2 whole in
      c.in-None.ensures.none (subst IsName (is ∙ sym c.in_ok-from_vec.ensures) fits.0),
  refl,
)
