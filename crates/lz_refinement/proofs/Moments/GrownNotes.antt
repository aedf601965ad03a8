-- Notes grow by one hold after the other.
use Rattle.std.proofs.Common.{ℕ, List, [], ◌∷◌, ◌++◌, refl, sym, ap, ◌∙◌, append_assoc}
use Rattle.lz_refinement.{proofs.Vocabulary.{Note, as_list, shape_of_sizes, trace_of, BoardId}, specs.{Marks.{marks_in, marks_with}, Moments.{ExplainsFrom, GrowsTo}}}

pub same_grows : (b : BoardId) (ns : List Note) → GrowsTo b ns ns
same_grows b ns = record { new = []; shows = refl; trace = ([], refl) }

pub grows_then : (b : BoardId) (was mid is : List Note) → GrowsTo b was mid → GrowsTo b mid is → GrowsTo b was is
grows_then b was mid is first second = record {
  new = second.new ++ first.new;
  shows = second.shows ∙ ap (λ M. second.new ++ M) first.shows ∙ sym (append_assoc second.new first.new (marks_in (shape_of_sizes b.sizes) was));
  trace = (
    second.trace.0 ++ first.trace.0,
    second.trace.1 ∙ ap (λ P. second.trace.0 ++ P) first.trace.1 ∙ sym (append_assoc second.trace.0 first.trace.0 (trace_of b.opened was)),
  );
}

-- notes grow from those with which they end
pub grows_on : (b : BoardId) (later before : List Note) → GrowsTo b before (later ++ before)
grows_on b [] before = same_grows b before
grows_on b (n ∷ later) before =
    grows_then b before (later ++ before) (n ∷ later ++ before) (grows_on b later before)
    record { new = marks_with (shape_of_sizes b.sizes) n.by n.what (later ++ before); shows = refl; trace = (as_list n.published, refl) }

-- what explains some of the notes explains more of them
pub later_from : (b : BoardId) (was mid is : List Note) → GrowsTo b mid is → (t : List ℕ) → ExplainsFrom b was mid t → ExplainsFrom b was is t
later_from b was mid is more t from = record { then = from.then; from = from.from; upto = grows_then b from.then mid is from.upto more; explains = from.explains }
