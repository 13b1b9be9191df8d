-- What the search leaves open of `round_trip_stands`.
use Rattle.steps.proofs.Back.{round_trip}
use Rattle.steps.proofs.round_trip_stands.Goals as goal

pub returns : goal.returns
returns c = round_trip
