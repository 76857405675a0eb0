-- A part of a job within it: its bytes and its words.
use mathlib.Core.Path.{◌≡◌, refl, ◌∙◌, ap}
use mathlib.Core.List.{List}
use Prim.Native.Nat.{ℕ, ◌+◌, ◌*◌, ◌≤◌, ◌<◌}
use native.Mathlib.Omega.{arith}
use lib.ListN.{take, drop, length, get_or, length-take, length-drop}
use lib.Seq.{get_or-take, get_or-drop}
use Rattle.words.specs.Words.{byte_at, word_at}
use Rattle.model.specs.Format.{words, start, section}
use Rattle.model.specs.declared.Header.{Header}
use Rattle.model.specs.declared.Part.{Part}

module _ (b : List ℕ) (head : Header) (part : Part) where
  -- it has all its bytes
  pub section_length : 4 * (start head part + words head part) ≤ length b → length (section b head part) ≡ 4 * words head part
  unfolding section
  section_length h = simp (length-take, length-drop) (omega arith)

  -- a word of it is the job's
  pub section_word : (k : ℕ) → k < words head part → word_at (section b head part) k ≡ word_at b (start head part + k)
  unfolding word_at section
  section_word k h =
      let w = start head part + k in
      rw (
        at (4 * k) (4 * w) (omega arith) (omega arith),
        at (4 * k + 1) (4 * w + 1) (omega arith) (omega arith),
        at (4 * k + 2) (4 * w + 2) (omega arith) (omega arith),
        at (4 * k + 3) (4 * w + 3) (omega arith) (omega arith),
      )
      refl
    where
      at : (i j : ℕ) → i < 4 * words head part → 4 * start head part + i ≡ j → get_or (take (4 * words head part) (drop (4 * start head part) b)) i 0 ≡ get_or b j 0
      at i j l e = get_or-take (4 * words head part) (drop (4 * start head part) b) i 0 l ∙ get_or-drop (4 * start head part) b i 0 ∙ ap (byte_at b) e
