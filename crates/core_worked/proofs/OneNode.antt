-- The table with one node, which takes it: its eight events are kept, and its free list is empty.
use Rattle.std.proofs.Common.{[], ◌∷◌, true≢false, refl, arith, inl, lit<, lit≤}
use Rattle.packed_link.specs.Layout.{IsLayout}
use Rattle.core_journal.specs.declared.event.Kind.TheVariants.{DrawNumber}
use Rattle.core_journal.specs.Event.{blank}
use Rattle.core_journal.specs.Machine.{machine, word_at}
use Rattle.core_journal.specs.Right.{NoneFree}
use Rattle.core_journal.specs.State.{state}
use Rattle.core_kept.specs.Kept.{IsKept}
use Rattle.core_worked.specs.Counted.{one_node, one_vertex}

pub least_layout : IsLayout one_node
least_layout = record {
  some_callers = lit≤ tt;
  few_callers = lit≤ tt;
  some_nodes = lit≤ tt;
  few_nodes = lit≤ tt;
  some_buckets = lit≤ tt;
  few_buckets = lit≤ tt;
}

pub one_vertex_empty : NoneFree one_node one_vertex
unfolding machine word_at
one_vertex_empty = record { empty = refl }

pub one_vertex_kept : IsKept one_node one_vertex
unfolding machine word_at state
one_vertex_kept = record {
  steps = (
    record {
      by = λ t. absurd (true≢false t);
      as_kind = record
          { life = refl; there = lit< tt; place = refl; word = refl; caller = refl };
    },
    (
      record {
        by = λ _. lit< tt;
        as_kind = record {
          life = refl;
          there = lit< tt;
          place = refl;
          loaded = [];
          before =
              record { rest = record blank { kind = DrawNumber; place = 1; word = 1 } ∷ []; whole = refl };
          word = refl;
          closed = refl;
        };
      },
      (
        record {
          by = λ _. lit< tt;
          as_kind = record {
            life = refl;
            there = lit< tt;
            place = refl;
            seen = refl;
            word =
                refl;
            holds_none = λ x t f. let m = f.fresh in absurd (cc);
            limit = lit< tt;
          };
        },
        (
          record {
            by = λ _. lit< tt;
            as_kind = record {
              life = refl;
              there = lit< tt;
              field = 0;
              place =
                  (refl, lit< tt);
              word = lit< tt;
              link = λ h. absurd
                  (omega (arith, h));
              fresh = record { fresh = refl; mine = refl };
            };
          },
          (
            record {
              by = λ _. lit< tt;
              as_kind = record {
                life = refl;
                there = lit< tt;
                field = 1;
                place =
                    (refl, lit< tt);
                word = lit< tt;
                link = λ _. (refl, refl);
                fresh = record { fresh = refl; mine = refl };
              };
            },
            (
              record {
                by = λ _. lit< tt;
                as_kind = record {
                  life = refl;
                  there = lit< tt;
                  field = 2;
                  place =
                      (refl, lit< tt);
                  word = lit< tt;
                  link = λ h. absurd
                      (omega (arith, h));
                  fresh = record { fresh = refl; mine = refl };
                };
              },
              (
                record {
                  by = λ _. lit< tt;
                  as_kind = record {
                    life = refl;
                    there = lit< tt;
                    field = 3;
                    place =
                        (refl, lit< tt);
                    word = lit< tt;
                    link = λ h. absurd
                        (omega (arith, h));
                    fresh = record { fresh = refl; mine = refl };
                  };
                },
                (
                  record {
                    by = λ _. lit< tt;
                    as_kind = record {
                      life = refl;
                      there = lit< tt;
                      bucket = 0;
                      before = 0;
                      place = inl (refl, lit< tt);
                      linked = λ x h. absurd (omega (arith, h));
                      unmarked = refl;
                      gap = record {
                        bucket_word = λ j h t. omega (arith, t);
                        bucket = λ x h. absurd
                            (omega (arith, h));
                        below = λ x h. absurd (omega (arith, h));
                        above = λ ne. absurd
                            (ne refl);
                      };
                      word = refl;
                      fresh = record { fresh = refl; mine = refl };
                      filled = record {
                        key_word = refl;
                        key_fits = lit< tt;
                        link_word = refl;
                        second_word = refl;
                        third_word = refl;
                      };
                      pass = refl;
                    };
                  },
                  tt,
                ),
              ),
            ),
          ),
        ),
      ),
    ),
  );
}
