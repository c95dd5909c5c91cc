use Rattle.zq_posheap.proofs.Listings.{count-listing, length-listing, orders}
use Rattle.zq_posheap.proofs.laws.listing.Goals as goal

pub returns : goal.returns
returns c = record { order = orders; len = length-listing; count = λ scores pairs test lists. count-listing scores pairs lists test }
