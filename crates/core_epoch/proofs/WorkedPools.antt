-- The changes of the worked free list.
use Rattle.std.proofs.Common.{◌≡◌, ◌≢◌, ℕ, zero, suc, ◌+◌, ◌==◌, cond, true, false, refl, arith}
use Rattle.core_epoch.specs.Free.{IsNewPool, TakesFirst, GivesBack, LeavesFree}
use Rattle.core_epoch.specs.Worked.{put_in}
use Rattle.core_epoch.specs.WorkedPool.{both_free, zero_taken, zero_written, zero_ready, zero_given}
use Rattle.core_epoch.proofs.WorkedRun.{put_else, both}
use Rattle.packed_link.specs.Link.{pack, nowhere}

pub opens : IsNewPool 2 both_free
opens = record {
  first = refl;
  link = both (λ x. both_free.link x ≡ pack (cond (x + 1 == 2) nowhere (x + 1)) 1 0) refl refl;
  is_free = λ x t. refl;
  free = refl;
  changes = refl;
}

pub first_step : TakesFirst 2 both_free zero_taken 0
first_step = record {
  there = omega arith;
  leads = refl;
  word = refl;
  taken = refl;
  list = refl;
  others = record { is_free = λ y ne. put_else 0 false both_free.is_free y ne; link = λ y. refl };
  changes = refl;
}

-- a node that isn't free is written
free_apart : (y : ℕ) → put_in 0 false both_free.is_free y ≡ true → y ≢ 0
free_apart zero h = absurd (cc)
free_apart (suc n) h = λ e. omega (arith, e)

pub second_step : LeavesFree zero_taken zero_written
second_step = record {
  first = refl;
  link = λ y m. put_else 0 (pack nowhere 0 1) zero_taken.link y
      (free_apart y m);
  is_free = λ y. refl;
  list = refl;
  changes = refl;
}

pub third_step : LeavesFree zero_written zero_ready
third_step = record {
  first = refl;
  link = λ y m. put_else 0 (pack 1 1 1) zero_written.link y
      (free_apart y m);
  is_free = λ y. refl;
  list = refl;
  changes = refl;
}

pub fourth_step : GivesBack 2 zero_ready zero_given 0
fourth_step = record {
  there = omega arith;
  used = refl;
  ready = refl;
  word = refl;
  given = refl;
  list = refl;
  others = record { is_free = λ y ne. put_else 0 true zero_ready.is_free y ne; link = λ y. refl };
  changes = refl;
}
