-- What the readers of a path and of its parts answer.
use Rattle.std.specs.Prelude.{Option, Some, None, ℕ, ◌+◌, ◌≤◌, ◌<◌, ◌≡◌, List, Bool, length}
use Rattle.rights.specs.declared.path.Step.{Step}
use Rattle.rights.specs.Path.{Test, Axis}
use Rattle.rights.specs.PathReader.{Got, run_at, read_test, axis_at, test_place, got, bad}

-- the answer of the code: the place after what was read
abbrev pub place_of : {A : Type 0} → Got A → Option ℕ
place_of (got x i) = Some i
place_of bad = None

-- the step along the axis a whose test stands from k up to i
abbrev pub step_at : Axis → ℕ → ℕ → Option Step
step_at a k i = Some (record { axis = a; at = k; end = i })

-- the answer of the code on a step with the axis a whose test begins at k
abbrev pub step_answer : Axis → ℕ → Got Test → Option Step
step_answer a k (got x i) = step_at a k i
step_answer a k bad = None

-- the answer is that, and the test that was read lies before end
pub record Stepped (a : Axis) (k : ℕ) (g : Got Test) (end : ℕ) (r : Option Step) : Type 0 where
  pub is : r ≡ step_answer a k g
  pub on : (b : Axis) (l i : ℕ) → r ≡ step_at b l i → (l < i) × (i ≤ end)

-- of the step at a place
abbrev pub StepAt : List ℕ → ℕ → Option Step → Type 0
StepAt s at r = Stepped (axis_at s at) (test_place s at) (read_test s (test_place s at)) (length s) r

-- the answer is what the definition gives, and its place lies between from and end
pub record Onward (want r : Option ℕ) (from end : ℕ) : Type 0 where
  pub is : r ≡ want
  pub on : (i : ℕ) → r ≡ Some i → (from ≤ i) × (i ≤ end)

-- r is the place after the bytes of the class f at a place
pub record Ends (f : ℕ → Bool) (s : List ℕ) (at r : ℕ) : Type 0 where
  pub is : r ≡ at + run_at f s at
  pub from : at ≤ r
  pub to : r ≤ length s

-- where post relates a byte to an answer, the answer is what f gives
abbrev pub Computes : (ℕ → Bool → Type 0) → (ℕ → Bool) → Type 0
Computes post f = (b : ℕ) (r : Bool) → b < 256 → post b r → r ≡ f b
