-- `kron_reduction::KronReducer::of_numbers` meets its contract.
use Rattle.prelude.proofs.Prelude.{sym, ap, ◌∙◌, List, ℕ, length, ap₂}
use Rattle.lists.specs.Buses.{up_to}
use Rattle.lists.proofs.Order.{length-up_to}
use Rattle.kron_reduction.specs.Reducer.{padded}
use Rattle.kron_reduction.proofs.KronReducer.of_numbers.Goals as goal

pub returns : goal.returns
returns c =
    let n = length c.args.numbers.now in
    ap₂ (λ (bs ms : List ℕ). record { made = n; n_buses = n; active_buses = bs; numbers = ms }) c.first_buses.ensures c.in_places.ensures
    ∙ ap (λ (m : ℕ). record { made = n; n_buses = m; active_buses = padded (up_to n); numbers = padded c.args.numbers.now }) (sym (length-up_to n))
