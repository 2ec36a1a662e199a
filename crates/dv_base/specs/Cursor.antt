-- A place in a list of bytes, and what it is to take the next ones.
use Rattle.std.specs.Prelude.{◌≡◌, ℕ, ◌+◌, ◌<◌, ◌≤◌, List, length, take, drop, Option, MatchOption}

-- Bytes, and how many of them have been taken.
pub record Reading : Type 0 where
  pub bytes : List ℕ
  pub place : ℕ

-- the bytes that have not been taken
abbrev pub rest : Reading → List ℕ
rest reading = drop reading.place reading.bytes

-- n bytes further on
abbrev pub moved : Reading → ℕ → Reading
moved reading n = record { bytes = reading.bytes; place = reading.place + n }

-- None exactly where fewer than n bytes remain, and then nothing has changed; else what the next n bytes stand for, and they
-- have been taken
abbrev pub Takes : {X : Type 0} → (List ℕ → X → Type 0) → ℕ → Reading → Reading → Option X → Type 0
Takes StandFor n old new result =
    MatchOption result ((length (rest old) < n) × (new ≡ old))
    (λ x. (n ≤ length (rest old)) × StandFor (take n (rest old)) x × (new ≡ moved old n))
