-- What is missing in a line is refused with 12.
use mathlib.Core.Path.{◌≡◌, refl}
use Rattle.std.specs.Prelude.{Option, Some, None, Result, Ok, Err}
use Rattle.std.specs.Option.{ok_or}
use Rattle.std.specs.Result.{IsErrAnd}
use Rattle.answers.specs.declared.Refusal.{Refusal}
use Rattle.answers.specs.declared.Refusal.TheVariants.{NoLine}
use Rattle.answers.specs.Answer.{refused, told}

pub record Missing {A T : Type 0} (o : Option A) (r : Result T Refusal) : Type 0 where
  pub none : o ≡ None
  pub told_is : told r ≡ refused 12

-- where what stands for no line is handed on
pub missing : {A T : Type 0} (o : Option A) (asked : Result A Refusal) (e : Refusal) (r : Result T Refusal) → asked ≡ ok_or o NoLine → asked ≡ Err e → IsErrAnd r (λ y. y ≡ e) → Missing o r
missing (Some a) asked e r given err same = absurd cc
missing None asked e (Ok t) given err same = absurd same
missing None asked e (Err y) given err same =
    let no_line : e ≡ NoLine = cc in
    record { none = refl; told_is = rw (same, no_line) }
