mod halves
mod growing
mod inserting
mod deleting
mod guided
