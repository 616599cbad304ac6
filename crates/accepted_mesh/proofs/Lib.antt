mod DegreeLaws
