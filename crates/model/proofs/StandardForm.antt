-- Standard forms worked out: a job with a zero factor, a shared tail, a record on no chain and a row without any, and one whose form is longer.
use mathlib.Core.Path.{◌≡◌, refl, ap}
use mathlib.Core.List.{List, [], ◌∷◌, ◌++◌}
use Rattle.std.specs.Prelude.{None}
use Prim.Native.Nat.{ℕ, ◌+◌}
use native.Mathlib.Omega.{arith}
use lib.ListN.{length}
use Rattle.exact.specs.Parts.{up}
use Rattle.words.specs.Words.{signed32, word_at}
use Rattle.words.specs.Fields.{misfit}
use Rattle.model.specs.Chains.{chain_from, walk, repeats, returns, names_twice}
use Rattle.model.specs.Decode.{decode}
use Rattle.model.specs.Format.{section}
use Rattle.model.specs.Refusals.{fault1, fault2, fault3, fault4, fault5, fault6, fault7, fault8, fault11, job_tests, highway_verdict}
use Rattle.model.specs.StandardForm.{Agree, terms_of, word_bytes, form_part, form}

-- words that are counts, as bytes
abbrev words_bytes : List ℕ → List ℕ
words_bytes [] = []
words_bytes (w ∷ rest) = word_bytes w ++ words_bytes rest

-- a line of one piece of 5 m, a carriageway of 3 m with ordinates 50 cm apart, and three effects; C, the rows and the records are still to come
abbrev job_of : (c : ℕ) → (table : List ℕ) → List ℕ
job_of c table = words_bytes (1 ∷ 50 ∷ 1 ∷ 50 ∷ 300 ∷ 2 ∷ 0 ∷ 3 ∷ 3 ∷ c ∷ []) ++ words_bytes (10 ∷ 20 ∷ 1 ∷ 2 ∷ 3 ∷ 4 ∷ 5 ∷ 6 ∷ 7 ∷ 100 ∷ 1 ∷ 200 ∷ 2 ∷ 300 ∷ 1 ∷ []) ++ words_bytes table

-- rows whose chains are records 2, 1 (factor 0 for effect 3, then effect 2), 3, 1 (effects 3 and 2) and none; record 4 is on no chain
abbrev respelled : List ℕ
respelled = job_of 4 (1 ∷ 0 ∷ 0 ∷ 2 ∷ 2 ∷ 1 ∷ 1350 ∷ 3 ∷ 1 ∷ 2 ∷ 1000 ∷ 0 ∷ 2 ∷ 110 ∷ 0 ∷ 3 ∷ 0 ∷ 1 ∷ 3 ∷ 90 ∷ 1 ∷ 1 ∷ 5 ∷ 0 ∷ [])

-- the second row's terms rise by effect
pub terms_worked : terms_of respelled 2 ≡ record { effect = 2; factor = 110 } ∷ record { effect = 3; factor = 90 } ∷ []
unfolding terms_of section decode chain_from word_at signed32
terms_worked = refl

-- its form: record 1 is the first row's, records 2 and 3, by rising effect, are the second row's
pub form_worked : form respelled ≡ job_of 3 (1 ∷ 0 ∷ 0 ∷ 1 ∷ 2 ∷ 1 ∷ 1350 ∷ 2 ∷ 1 ∷ 2 ∷ 1000 ∷ 0 ∷ 2 ∷ 110 ∷ 0 ∷ 2 ∷ 110 ∷ 3 ∷ 3 ∷ 90 ∷ 0 ∷ [])
unfolding form form_part section terms_of decode chain_from word_at signed32
form_worked = refl

-- it is a job
pub respelled_accepted : highway_verdict respelled ≡ None
unfolding highway_verdict job_tests fault1 fault2 fault11 fault3 fault4 fault5 fault6 fault7 fault8 misfit section returns names_twice repeats walk word_at signed32
respelled_accepted = refl

-- and one with another live factor in its second row does not agree with it
pub live_factor_differs : Agree respelled (job_of 4 (1 ∷ 0 ∷ 0 ∷ 2 ∷ 2 ∷ 1 ∷ 1349 ∷ 3 ∷ 1 ∷ 2 ∷ 1000 ∷ 0 ∷ 2 ∷ 110 ∷ 0 ∷ 3 ∷ 0 ∷ 1 ∷ 3 ∷ 90 ∷ 1 ∷ 1 ∷ 5 ∷ 0 ∷ [])) → ⊥
unfolding section word_at signed32
live_factor_differs a = let same : ◌≡◌ {A = ℕ} 1350 1349 = ap up (a.row 1 2 (omega arith) (omega arith)) in omega arith

-- three rows that share their one record
abbrev sharing : List ℕ
sharing = job_of 1 (1 ∷ 0 ∷ 0 ∷ 1 ∷ 2 ∷ 0 ∷ 0 ∷ 1 ∷ 1 ∷ 0 ∷ 0 ∷ 1 ∷ 1 ∷ 110 ∷ 0 ∷ [])

-- a job whose form is longer: it has a record for each row
pub form_longer : (highway_verdict sharing ≡ None) × (length (form sharing) ≡ length sharing + 24)
unfolding highway_verdict job_tests fault1 fault2 fault11 fault3 fault4 fault5 fault6 fault7 fault8 misfit returns names_twice repeats walk form form_part section terms_of decode chain_from word_at signed32
form_longer = (refl, refl)
