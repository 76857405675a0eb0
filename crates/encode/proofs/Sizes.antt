-- How many numbers a limit state and an account have.
use mathlib.Core.Path.{◌≡◌, refl}
use mathlib.Core.List.{◌++◌}
use native.Mathlib.Omega.{arith}
use lib.ListN.{length, length-append}
use Rattle.std.specs.Prelude.{None, Some}
use Rattle.model.specs.Answers.{State}
use Rattle.model.specs.declared.Account.{Account}
use Rattle.encode.specs.Encoding.{account_count, limit_numbers, count_numbers, account_numbers}

pub limit_length : (s : State) → length (limit_numbers s) ≡ 11
limit_length None = refl
limit_length (Some x) = refl

pub account_count_lem : (a : Account) → length (account_numbers a) ≡ account_count
account_count_lem a =
    let s = limit_length a.service in
    let u = limit_length a.ultimate in
    let b = length-append (limit_numbers a.service ++ limit_numbers a.ultimate) (count_numbers a) in
    let d = length-append (limit_numbers a.service) (limit_numbers a.ultimate) in
    omega arith
