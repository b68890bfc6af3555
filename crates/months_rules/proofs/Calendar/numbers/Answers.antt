-- `months_rules::Calendar::numbers` meets its contract: the days are those on which the covered years open and end, the rest is read off the calendar's rules.
use Rattle.months_rules.specs.Rules.{rules_of}
use Rattle.months_rules.proofs.Figures.{senmyo_opens, senmyo_ends, genka_opens, genka_ends}
use Rattle.months_rules.proofs.Calendar.numbers.Goals as goal

pub returns-in-Senmyo : goal.returns-in-Senmyo
unfolding rules_of
returns-in-Senmyo c = rw (c.in-Senmyo.is, senmyo_opens, senmyo_ends)

pub returns-in-Genka : goal.returns-in-Genka
unfolding rules_of
returns-in-Genka c = rw (c.in-Genka.is, genka_opens, genka_ends)
