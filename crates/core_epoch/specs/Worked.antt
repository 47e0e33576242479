-- A worked run of two callers: both open passes, the epoch moves on, node 5 is unlinked while a pass is open that may
-- have met it, and it's given back once no such pass is left.
use Rattle.std.specs.Prelude.{ℕ, ◌+◌, true, false, List, [], ◌∷◌, nat_eq, if◌then◌else◌}
use Rattle.core_epoch.specs.Ends.{Moment}

module _ {A : Type 0} where
  -- a function with one value written
  abbrev pub put_in : ℕ → A → (ℕ → A) → ℕ → A
  put_in i a f x = if nat_eq x i then a else f x

-- a caller announces an epoch
abbrev pub announced : ℕ → ℕ → Moment → Moment
announced caller loaded m = record m {
  clock = record m.clock {
    count = m.clock.count + 1;
    is_open = put_in caller true m.clock.is_open;
    birth = put_in caller m.clock.epoch m.clock.birth;
    since = put_in caller m.clock.count m.clock.since;
    word = put_in caller (loaded + 1) m.clock.word;
  };
}

-- a caller withdraws its announcement
abbrev pub withdrawn : ℕ → Moment → Moment
withdrawn caller m = record m {
  clock = record m.clock {
    count = m.clock.count + 1;
    is_open = put_in caller false m.clock.is_open;
    word = put_in caller 0 m.clock.word;
  };
}

-- the epoch moves on
abbrev pub moved : Moment → Moment
moved m = record m { clock = record m.clock { count = m.clock.count + 1; epoch = m.clock.epoch + 1 } }

-- a life of a node ends
abbrev pub node_unlinked : ℕ → Moment → Moment
node_unlinked x m = record {
  clock = record m.clock { count = m.clock.count + 1 };
  ends = record {
    ended = put_in x (m.clock.count + 1) m.ends.ended;
    epoch = put_in x m.clock.epoch m.ends.epoch;
    is_spent = put_in x true m.ends.is_spent;
  };
}

-- a spent node is given back
abbrev pub given_back : ℕ → Moment → Moment
given_back x m = record {
  clock = record m.clock { count = m.clock.count + 1 };
  ends = record m.ends { is_spent = put_in x false m.ends.is_spent };
}

-- nothing has happened
abbrev pub opened : Moment
opened = record {
  clock = record { count = 0; epoch = 0; is_open = λ i. false; birth = λ i. 0; since = λ i. 0; word = λ i. 0 };
  ends = record { ended = λ x. 0; epoch = λ x. 0; is_spent = λ x. false };
}

-- caller 0 announces epoch 0
abbrev pub zero_announced : Moment
zero_announced = announced 0 0 opened

-- the epoch moves on to 1: caller 0 has announced it, and caller 1 nothing
abbrev pub first_moved : Moment
first_moved = moved zero_announced

-- node 5 is unlinked in epoch 1
abbrev pub five_unlinked : Moment
five_unlinked = node_unlinked 5 first_moved

-- caller 1 announces epoch 0, which it loaded long ago: its pass begins in epoch 1
abbrev pub one_announced : Moment
one_announced = announced 1 0 five_unlinked

-- caller 0 withdraws
abbrev pub zero_withdrawn : Moment
zero_withdrawn = withdrawn 0 one_announced

-- caller 1 withdraws too, and no pass is open
abbrev pub both_withdrawn : Moment
both_withdrawn = withdrawn 1 zero_withdrawn

-- the epoch moves on to 2
abbrev pub second_moved : Moment
second_moved = moved both_withdrawn

-- caller 0 announces epoch 2
abbrev pub again_announced : Moment
again_announced = announced 0 2 second_moved

-- the epoch moves on to 3
abbrev pub third_moved : Moment
third_moved = moved again_announced

-- node 5 is given back
abbrev pub five_given_back : Moment
five_given_back = given_back 5 third_moved

-- the whole run after its first moment
abbrev pub worked : List Moment
worked = zero_announced ∷ first_moved ∷ five_unlinked ∷ one_announced ∷ zero_withdrawn ∷ both_withdrawn ∷ second_moved
    ∷ again_announced ∷ third_moved ∷ five_given_back ∷ []

-- the epoch moves on to 2 while caller 0 has announced 0, which a check would have found
abbrev pub unchecked : Moment
unchecked = moved (moved (node_unlinked 5 zero_announced))
