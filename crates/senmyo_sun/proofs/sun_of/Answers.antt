-- `senmyo_sun::sun_of` meets its contract: the place that is found is a printed term's, where every number fits its word.
use Rattle.std.proofs.Common.{◌≡◌, ◌%◌, arith, rules, FitsSigned, w64, to_z-of_z}
use Rattle.numbers.proofs.Size.{worked_fits, worked_word}
use Rattle.units.specs.Units.{fen_to_byo}
use Rattle.units.specs.declared.Byo.{Byo}
use Rattle.senmyo_means.specs.Means.{solar_year}
use Rattle.senmyo_sun.specs.declared.TermPlace.{TermPlace}
use Rattle.senmyo_sun.specs.Sun.{solstice_row, later_rows, place_in, sun_place, sun_of}
use Rattle.senmyo_sun.proofs.Terms.{Fair, fair, Found, found}
use Rattle.senmyo_sun.proofs.Sizes.{in_term, whole, rest, share}
use Rattle.senmyo_sun.proofs.sun_of.Goals as goal

-- what is found is the definition's place
here : (at : Byo) (p : TermPlace) → p ≡ place_in solstice_row later_rows (at.0 % (fen_to_byo solar_year).0) → p ≡ sun_place at
unfolding sun_place
here at p e = e

held : (at : Byo) (p : TermPlace) → p ≡ place_in solstice_row later_rows (at.0 % (fen_to_byo solar_year).0) → Found Fair p
held at p e = rw (here at p e) (found Fair fair at)

pub after_days-requires : goal.after_days-requires
after_days-requires c = in_term _ (held c.args.at _ c.place_of-place.ensures)

pub overflow_mul-share : goal.overflow_mul-share
overflow_mul-share c = worked_fits (whole _ (held c.args.at _ c.place_of-place.ensures) c.after_days.ensures) (omega arith)

pub on_day-requires : goal.on_day-requires
on_day-requires c = in_term _ (held c.args.at _ c.place_of-place.ensures)

pub overflow_mul-share-2 : goal.overflow_mul-share-2
overflow_mul-share-2 c = worked_fits (rest _ (held c.args.at _ c.place_of-place.ensures) c.on_day.ensures) (omega arith)

pub overflow_add-share : goal.overflow_add-share
overflow_add-share c = worked_fits (share _ (held c.args.at _ c.place_of-place.ensures) c.after_days.ensures c.on_day.ensures) (omega arith)

pub nearest_of-requires : goal.nearest_of-requires
nearest_of-requires c =
    let w = share _ (held c.args.at _ c.place_of-place.ensures) c.after_days.ensures c.on_day.ensures in
    rw (worked_word w (omega arith)).same (omega (arith, w.small.size))

pub returns : goal.returns
unfolding sun_of
returns c =
    let w = share _ (held c.args.at _ c.place_of-place.ensures) c.after_days.ensures c.on_day.ensures in
    let fits : FitsSigned w64 c.nearest_of.result = search rules in
    rw (to_z-of_z fits) (rw ((worked_word w (omega arith)).same, here c.args.at _ c.place_of-place.ensures) at c.nearest_of.ensures)
